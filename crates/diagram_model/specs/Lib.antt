pub mod Bryant
pub mod Functions
pub mod Joint
pub mod Nodes
pub mod Reach
pub mod Size
pub mod Stores
