-- Contracts cite `Differs`, `Makes`, `Marks` and `Slots`; the other files hold what only private functions
-- and proofs use.
pub mod Differs
pub mod Makes
pub mod Marking
pub mod Marks
pub mod Pairs
pub mod Slots
pub mod Stored
pub mod Walks
