pub mod Parts
pub mod Turns
pub mod Cuts
pub mod Ways
pub mod Behind
pub mod Turned
