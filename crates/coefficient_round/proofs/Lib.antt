pub mod Bounds
pub mod Ratio
