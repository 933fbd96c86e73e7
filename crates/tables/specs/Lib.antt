-- Contracts cite `NodeTable` and `Seeking`; the other files say how the places of a table are kept.
pub mod NodePlaces
pub mod NodeTable
pub mod Probing
pub mod Searching
pub mod Seeking
pub mod Stored
