pub mod Setup
pub mod Placed
