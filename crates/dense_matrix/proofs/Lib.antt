pub mod Splits
pub mod Terms
pub mod Matrices
