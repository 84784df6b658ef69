pub mod Settled
pub mod Headed
pub mod Opened
