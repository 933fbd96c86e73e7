pub mod Matrix
pub mod Shape
pub mod Circuits
pub mod Unitary
pub mod Private
