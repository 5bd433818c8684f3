pub mod Bounds
pub mod ShareLemmas
