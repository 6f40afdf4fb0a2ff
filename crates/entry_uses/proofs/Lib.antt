pub mod KindTests
pub mod ListTests
pub mod Counts
pub mod Typed
