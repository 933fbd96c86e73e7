pub mod Private
pub mod Paths
pub mod Counts
pub mod OnTop
pub mod KeptSums
