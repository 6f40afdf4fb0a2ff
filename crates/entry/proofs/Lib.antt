pub mod Numbers
pub mod Counts
pub mod Entering
pub mod Preparing
pub mod Rows
