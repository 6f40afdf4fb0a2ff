pub mod Shelved
pub mod Answers
pub mod Tapes
pub mod Reads
pub mod Runs
