pub mod SumLemmas
pub mod VectorLemmas
pub mod WorkingLemmas
pub mod PrefixLemmas
pub mod FitLemmas
pub mod Controlled
