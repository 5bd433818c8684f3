pub mod ColumnFacts
pub mod PlaceFacts
pub mod RecordFacts
