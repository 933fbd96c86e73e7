pub mod Acts
pub mod Profile
pub mod Parts
pub mod Calls
pub mod Reasons
pub mod Reading
pub mod Private
