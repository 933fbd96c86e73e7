pub mod Seen
pub mod Codes
pub mod Counts
pub mod Tables
pub mod Proper
pub mod Views
