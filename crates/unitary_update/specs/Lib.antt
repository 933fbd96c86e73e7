pub mod Kept
pub mod Sided
