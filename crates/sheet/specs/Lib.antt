pub mod Fields
pub mod Machine
pub mod Front
pub mod Fronts
pub mod Stream
