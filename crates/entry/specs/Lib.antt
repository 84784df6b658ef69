pub mod Rounds
pub mod Entries
pub mod Raw
