pub mod Scans
pub mod Typed
pub mod Parts
