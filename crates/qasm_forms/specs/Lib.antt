pub mod Statements
pub mod Cutting
pub mod Shown
pub mod Private
