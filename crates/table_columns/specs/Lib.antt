pub mod Names
pub mod Columns
pub mod Read
pub mod Stored
