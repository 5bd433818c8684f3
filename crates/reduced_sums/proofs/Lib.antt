pub mod DualSizes
pub mod DualTerms
pub mod ReducedLemmas
pub mod WeighedLemmas
