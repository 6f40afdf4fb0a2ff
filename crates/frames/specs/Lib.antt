pub mod Frames
pub mod Report
pub mod Read
