pub mod MatrixLemmas
pub mod ControlledLemmas
pub mod PlacedLemmas
pub mod CircuitLemmas
pub mod TableLemmas
pub mod UnitaryLemmas
