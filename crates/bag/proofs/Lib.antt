pub mod Filing
pub mod Steps
