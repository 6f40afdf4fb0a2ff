pub mod Use
pub mod Uses
pub mod Pieces
pub mod Parts
pub mod Conflict
