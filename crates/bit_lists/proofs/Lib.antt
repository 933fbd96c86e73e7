pub mod OrderLemmas
pub mod Partials
pub mod Places
pub mod Variables
