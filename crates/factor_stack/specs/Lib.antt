pub mod Image
pub mod Stored
pub mod Running
pub mod Stack
