pub mod Private
pub mod Texts
pub mod Verdicts
pub use Rattle.bit_lists.specs.Lists.{bits_text}
