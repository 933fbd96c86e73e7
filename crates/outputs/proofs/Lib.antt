pub mod ListingLemmas
mod WalkLemmas
mod FoundLemmas
mod SummaryLemmas
mod ShotLemmas
