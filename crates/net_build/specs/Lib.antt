pub mod Build
pub mod Bounds
pub mod SmallGrids
pub mod Values
