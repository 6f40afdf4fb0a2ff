pub mod KindTests
pub mod InJob
pub mod ListTests
