pub mod Ways
pub mod Arms
