-- The laws that belong to no one function.
pub mod Costs
pub mod Sums
pub mod Nonneg
pub mod Bits
