pub mod Names
pub mod Columns
pub mod Coordinates
pub mod PointTable
pub mod Accepted
pub mod Read
