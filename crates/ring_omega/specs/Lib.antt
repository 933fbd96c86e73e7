pub mod Ring
pub mod Value
pub mod Lowest
pub mod Bounds
pub mod Weights
pub mod Private
pub mod Halving
