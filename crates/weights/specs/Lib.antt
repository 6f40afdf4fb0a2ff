pub mod Costs
pub mod Nonneg
