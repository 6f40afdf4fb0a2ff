pub mod Hints
pub mod Laws
pub mod Sorted
pub mod Flags
