pub mod Sums
pub mod Rounding
pub mod Matrices
pub mod Chains
pub mod Certificates
pub mod Grid
