pub mod Framed
pub mod InFrame
