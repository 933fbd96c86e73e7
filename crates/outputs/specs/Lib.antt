pub mod Listing
pub mod Outcomes
pub mod Shots
pub mod Summary
