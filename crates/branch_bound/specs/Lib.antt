pub mod Searched
pub mod Found
pub mod Inherited
pub mod Naming
pub mod Spelled
pub mod Cuts
pub mod Explored
pub mod Logged
