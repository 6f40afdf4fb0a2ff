pub mod Runs
pub mod Sets
