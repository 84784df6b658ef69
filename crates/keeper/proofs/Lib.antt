pub mod Positions
pub mod Sealings
pub mod Counts
pub mod Standing
