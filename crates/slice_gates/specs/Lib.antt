pub mod GateWork
pub mod Rows
pub mod Shown
pub mod Sides
pub mod Stepped
