-- What callers believe:
pub mod Bounds
pub mod Cofactors
pub mod Connectives
pub mod Diagrams
pub mod Flips
pub mod Keys
pub mod Lending
pub mod Made
-- Words of private functions:
pub mod Ends
pub mod Keeping
pub mod Marks
pub mod Operands
pub mod Operations
pub mod Seen
pub mod Short
pub mod Taken
