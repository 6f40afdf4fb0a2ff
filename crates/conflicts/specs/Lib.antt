pub mod Conflicts
pub mod InFrame
pub mod Rounds
