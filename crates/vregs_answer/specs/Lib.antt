pub mod Sheet
pub mod Laws
pub mod Apart
pub mod Shown
pub mod Same
pub mod Ran
