pub mod Asked
pub mod PartInFrame
pub mod Piece
pub mod Asks
pub mod ConflictInFrame
