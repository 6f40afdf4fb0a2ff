pub mod Asked
pub mod Fills
pub mod Places
