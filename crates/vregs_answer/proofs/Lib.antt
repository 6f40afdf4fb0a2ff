-- The laws that belong to no one function.
pub mod Weights
pub mod Starts
pub mod Pages
pub mod Comparing
pub mod Replaying
