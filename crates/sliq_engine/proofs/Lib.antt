mod Endings
mod SimExits
pub mod WeighedExits
mod DemoExits
mod PairExits
mod EqExits
pub mod FidelityExits
mod TakingLemmas
mod RunLemmas
