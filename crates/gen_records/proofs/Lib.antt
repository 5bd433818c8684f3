pub mod CountFacts
pub mod LongLines
