pub mod Groups
pub mod Weighed
