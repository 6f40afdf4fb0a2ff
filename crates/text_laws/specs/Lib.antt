pub mod Spelling
pub mod Texts
pub mod Back
pub mod Grown
pub mod ConversionPromises
pub mod Lawful
pub mod Lines
pub mod Implied
pub mod Shelved
pub mod OrderPromises
mod Cases
