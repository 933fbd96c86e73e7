pub mod RingLemmas
pub mod RingLaws
pub mod BoundLemmas
pub mod LowestLemmas
pub mod LowestFormLemmas
pub mod WeightLemmas
