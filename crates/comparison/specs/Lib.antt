pub mod Scalars
pub mod Products
pub mod Steps
pub mod Verdicts
pub mod Sides
