-- Contracts cite `Memo`; the other files say how the places of a memo are kept.
pub mod Memo
pub mod MemoPlaces
pub mod Stored
