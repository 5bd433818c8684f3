pub mod Numbered
pub mod ReportLines
pub mod Halving
pub mod LimitPlaces
pub mod PartLines
pub mod RedundancyLines
