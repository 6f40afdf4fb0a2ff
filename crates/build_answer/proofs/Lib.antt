-- The laws that belong to no one function.
pub mod Tables
pub mod Accepted
pub mod Floats
pub mod Promises
pub mod Close
pub mod Round
pub mod Ops
pub mod Exact
pub mod Largest
pub mod Sums
pub mod Truth
pub mod TruthFloats
pub mod Rank
pub mod TruthPromises
pub mod Instance
