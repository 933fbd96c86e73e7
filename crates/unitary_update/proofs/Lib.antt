pub mod Chains
pub mod Enough
pub mod MatrixLemmas
pub mod StepEnds
pub mod Woven
