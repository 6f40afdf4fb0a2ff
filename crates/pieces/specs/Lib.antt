pub mod Rows
pub mod Maps
pub mod MapsInFrame
pub mod Conflict
pub mod ConflictInFrame
