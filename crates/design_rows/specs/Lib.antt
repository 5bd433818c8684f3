pub mod Unknowns
pub mod Equations
pub mod Rows
pub mod Bounds
