pub mod FormBounds
pub mod PlaceBounds
