pub mod Number
pub mod Accepted
pub mod Owner
pub mod Cases
