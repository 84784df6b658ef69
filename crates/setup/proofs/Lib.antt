pub mod Places
pub mod Unseen
