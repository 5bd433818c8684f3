pub mod Appending
pub mod Digits
pub mod Grammar
pub mod Numerals
pub mod Reading
pub mod WholeText
pub mod Writing
