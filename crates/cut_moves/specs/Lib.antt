pub mod Answer
pub mod Promised
pub mod Cases
pub mod Rows
pub mod Merges
