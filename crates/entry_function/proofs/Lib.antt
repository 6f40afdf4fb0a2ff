pub mod Scans
pub mod Tables
pub mod Tests
pub mod Passed
