-- What callers believe:
pub mod Due
pub mod Stored
pub mod Chains
pub mod Upkept
pub mod Accepted
-- Words of private functions:
pub mod Tried
