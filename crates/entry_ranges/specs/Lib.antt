pub mod HintTests
pub mod SegmentTests
