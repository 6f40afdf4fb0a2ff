pub mod Left
pub mod Rows
pub mod Pages
pub mod Sheets
pub mod AnswerPages
pub mod Laws
