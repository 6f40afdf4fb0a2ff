pub mod Part
pub mod Cut
pub mod Turned
