pub mod Script
pub mod Session
pub mod TrialText
pub mod Surveyed
pub mod Stacks
