pub mod Shaped
pub mod Whole
pub mod One
pub mod All
