pub mod Vectors
pub mod Covariance
