-- The laws that belong to no one function.
pub mod Spelling
pub mod Texts
pub mod Reading
