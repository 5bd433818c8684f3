pub mod NameFacts
pub mod NumberFacts
pub mod Places
pub mod PlaceFacts
pub mod NewNameFacts
pub mod StoredFacts
pub mod TableFacts
pub mod RecordFacts
