pub mod Limits
pub mod Book
