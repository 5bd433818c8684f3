pub mod StationFacts
pub mod PriceFacts
