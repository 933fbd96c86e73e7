-- What callers believe:
pub mod Numbers
pub mod Sheets
pub mod Snapshots
pub mod Loading
-- Words of private functions:
pub mod Private
pub mod Reading
pub mod Making
pub mod Judging
