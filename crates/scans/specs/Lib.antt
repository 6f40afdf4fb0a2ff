pub mod Answers
pub mod Walks
