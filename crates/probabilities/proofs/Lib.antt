pub mod WeighingLemmas
pub mod OutcomeLemmas
pub mod PossibleLemmas
