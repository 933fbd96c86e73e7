pub mod Gates
pub mod Bodies
pub mod Private
