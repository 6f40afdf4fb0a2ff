pub mod ValueRows
pub mod OperandRows
pub mod Chains
pub mod InIndex
