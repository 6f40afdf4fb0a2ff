pub mod Shape
pub mod Answer
pub mod Cases
