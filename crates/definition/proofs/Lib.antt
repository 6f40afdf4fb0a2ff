mod Cases
mod CutCases
pub mod Cuts
pub mod Scans
pub mod Counts
pub mod Moves
pub mod Fits
pub mod Fuel
pub mod Places
pub mod Measures
pub mod Builder
pub mod Rounds
pub mod Points
pub mod Entries
pub mod ReadBack
pub mod Rises
pub mod Same
pub mod Printed
pub mod Runs
pub mod Tables
pub mod Targets
pub mod Classes
pub mod Admission
pub mod Accepted
pub mod Sets
pub mod Owned
pub mod Marks
pub mod Promises
pub mod Touched
pub mod Weighed
pub mod Written
pub mod SheetCases
mod ConversionCases
pub mod Conversions
pub mod Forms
