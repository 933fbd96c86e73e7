pub mod Prefixes
pub mod Product
pub mod Vector
pub mod Working
