pub mod Sums
pub mod Products
pub mod Cauchy
pub mod Law
pub mod Eigenvalues
