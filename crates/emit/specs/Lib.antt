pub mod Told
pub mod InWalk
