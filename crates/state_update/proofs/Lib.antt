pub mod Ends
pub mod Enough
pub mod GateSteps
pub mod NodesKept
pub mod RunLemmas
pub mod Shown
pub mod StateLemmas
