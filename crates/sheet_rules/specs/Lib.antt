pub mod Bytes
pub mod Kinds
pub mod Rules
pub mod Places
