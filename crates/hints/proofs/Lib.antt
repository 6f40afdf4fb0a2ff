pub mod Steps
pub mod Searching
