pub mod Operand
pub mod Admitted
pub mod Kept
pub mod Accepted
pub mod Places
pub mod Narrowing
pub mod Joining
