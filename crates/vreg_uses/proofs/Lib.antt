pub mod Bytes
pub mod Ok
