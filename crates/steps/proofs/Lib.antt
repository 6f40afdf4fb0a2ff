pub mod Read
pub mod Run
pub mod Turn
pub mod Cut
pub mod Changed
pub mod Moved
