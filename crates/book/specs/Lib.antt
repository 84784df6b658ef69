pub mod Rows
pub mod Books
