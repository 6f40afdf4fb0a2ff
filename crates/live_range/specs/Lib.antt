pub mod Points
pub mod Ranges
pub mod Laws
pub mod Cases
