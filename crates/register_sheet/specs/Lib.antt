pub mod Typed
pub mod Texts
pub mod Sheets
