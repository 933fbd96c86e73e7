pub mod Places
pub mod Sifts
pub mod Private
pub mod Hanging
pub mod Answers
