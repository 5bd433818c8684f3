pub mod Shifts
pub mod Covers
pub mod Keys
