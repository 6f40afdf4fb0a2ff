pub mod Costs
pub mod Uses
pub mod Scanning
pub mod Steps
pub mod Lists
pub mod Asking
pub mod Admitting
pub mod Walking
