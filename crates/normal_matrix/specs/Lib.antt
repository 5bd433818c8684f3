pub mod Entries
pub mod Normal
pub mod Changes
