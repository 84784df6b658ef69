pub mod Bodies
pub mod Fitting
pub mod Warrants
