pub mod Limits
pub mod Sizes
pub mod Classes
pub mod Book
