pub mod Duals
