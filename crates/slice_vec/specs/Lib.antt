-- What callers believe:
pub mod Bounds
pub mod Digits
pub mod Growing
pub mod Slices
-- Words of private functions:
pub mod Places
pub mod Row
pub mod Trims
