-- Words that only the clauses of private functions and lemmas cite: a user of the crate may skip this folder.
pub mod Seen
pub mod Meanings
pub mod Scope
pub mod Drafts
