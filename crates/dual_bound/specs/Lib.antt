pub mod Shares
pub mod Bound
