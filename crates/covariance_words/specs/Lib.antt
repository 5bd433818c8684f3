pub mod Precision
pub mod Meaning
