pub mod VerdictLemmas
pub mod Pages
pub mod Starts
pub mod Comparing
pub mod Home
pub mod Ways
