pub mod Offsets
pub mod Bags
pub mod Checked
