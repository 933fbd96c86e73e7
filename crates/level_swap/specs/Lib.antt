-- Contracts of public functions cite `Swaps`; `Rewriting` holds what only private functions and proofs use.
pub mod Rewriting
pub mod Swaps
