pub mod NotCertified
pub mod Restored
