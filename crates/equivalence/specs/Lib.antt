-- Contracts of public functions cite `Matrices`; the words of `Positions` are those of private ones.
pub mod Matrices
pub mod Positions
