pub mod Places
pub mod Margins
pub mod Promised
pub mod Table
