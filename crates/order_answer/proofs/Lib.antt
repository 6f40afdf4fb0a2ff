pub mod Verdict
pub mod Texts
pub mod Starts
pub mod Finish
