pub mod Refusals
pub mod Status
pub mod Stops
