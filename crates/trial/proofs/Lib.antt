pub mod Zips
pub mod StackLists
pub mod Sessions
pub mod Texts
pub mod Lines
