pub mod ShareLemmas
pub mod Falls
pub mod Filled
pub mod Kept
pub mod Lines
pub mod Mixed
pub mod Unit
