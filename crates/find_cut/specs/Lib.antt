pub mod Answer
pub mod Cases
