pub mod FieldTextFacts
pub mod ReadingFacts
pub mod RowsFacts
pub mod HeaderFacts
pub mod FaultFacts
pub mod LeastFault
