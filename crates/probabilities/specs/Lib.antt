pub mod Weighing
pub mod Outcomes
pub mod Possible
pub mod Private
