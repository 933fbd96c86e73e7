-- Lemmas: `Entries` for callers.
pub mod Entries
pub mod Puts
