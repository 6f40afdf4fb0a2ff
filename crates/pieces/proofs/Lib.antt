pub mod PartRows
pub mod Hint
pub mod Kept
pub mod Operand
pub mod MapsGoing
pub mod ConflictRows
pub mod ConflictGoing
