pub mod Held
pub mod Asks
pub mod Ready
pub mod InFrame
pub mod Places
