pub mod Stores
pub mod Moves
pub mod Runs
