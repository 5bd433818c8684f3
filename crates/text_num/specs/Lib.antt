pub mod Bytes
pub mod Decimal
pub mod DecimalText
pub mod Digits
pub mod Whole
