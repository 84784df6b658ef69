pub mod Keeping
pub mod Bounding
pub mod Seals
