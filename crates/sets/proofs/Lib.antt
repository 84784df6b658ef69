pub mod Lists
pub mod Masks
pub mod Sums
pub mod Tests
