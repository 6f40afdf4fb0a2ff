pub mod Nexts
pub mod Texts
pub mod Steps
pub mod Fills
pub mod Made
pub mod Words
