pub mod Bools
pub mod Blocks
pub mod BlockLaws
pub mod Every
pub mod Chained
pub mod Table
