pub mod Tests
pub mod Laws
pub mod Header
pub mod Every
pub mod Columns
pub mod Rising
pub mod Formed
