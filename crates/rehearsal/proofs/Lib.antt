pub mod Council
pub mod Listed
pub mod Splitting
