pub mod Equality
pub mod Texts
pub mod Units
