pub mod Each
pub mod Encoding
pub mod Counting
pub mod Held
pub mod Update
pub mod Reads
pub mod UseRows
pub mod View
