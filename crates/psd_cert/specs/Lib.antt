pub mod Sizes
pub mod Certificate
pub mod LeftOver
pub mod Lower
