pub mod NumberLemmas
pub mod FirstUseLemmas
pub mod LineLemmas
pub mod TreeLemmas
pub mod TextLemmas
pub mod WalkLemmas
pub mod LawLemmas
pub mod NameLemmas
