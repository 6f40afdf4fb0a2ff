pub mod Sums
pub mod Pieces
pub mod Insts
pub mod Least
pub mod Ready
pub mod Reading
pub mod Accepted
