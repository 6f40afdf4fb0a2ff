pub mod Answered
pub mod Held
pub mod Sheets
pub mod Truth
