pub mod Reading
pub mod Bags
pub mod Lines
pub mod Texts
pub mod Cuts
