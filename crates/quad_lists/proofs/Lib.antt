pub mod ExactLemmas
pub mod HalvingLemmas
