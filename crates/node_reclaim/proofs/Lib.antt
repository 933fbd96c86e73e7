pub mod Bound
pub mod Exact
pub mod Left
pub mod Dropped
