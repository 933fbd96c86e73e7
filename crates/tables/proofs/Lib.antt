pub mod Copying
pub mod Listing
pub mod Nodes
pub mod Probing
pub mod Searching
pub mod Writing
