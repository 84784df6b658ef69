pub mod Schedule
pub mod Cycles
pub mod Written
pub mod Repeating
