pub mod Settled
pub mod Shown
pub mod Moved
