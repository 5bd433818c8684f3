pub mod EnergyForm
pub mod Directions
pub mod Limits
pub mod Members
pub mod Meaning
