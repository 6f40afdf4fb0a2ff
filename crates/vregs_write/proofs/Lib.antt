pub mod Loops
pub mod Scans
pub mod Turns
