pub mod Coefficient
