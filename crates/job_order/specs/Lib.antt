pub mod Rows
pub mod Orders
