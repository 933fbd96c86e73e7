-- Lemmas, by what they speak of.
pub mod Bits
pub mod Bounds
pub mod Carried
pub mod FixedBits
pub mod DigitLemmas
pub mod Followed
pub mod Growing
pub mod Joined
pub mod Negations
pub mod Numbers
pub mod Parities
pub mod Places
pub mod Ranges
pub mod Readings
pub mod Sums
pub mod Trims
pub mod Zeros
