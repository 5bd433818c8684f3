pub mod RuleFacts
pub mod PlaceFacts
pub mod RecordFacts
pub mod AcceptedFacts
