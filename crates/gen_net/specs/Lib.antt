pub mod Candidates
pub mod Draws
pub mod Fields
pub mod Points
