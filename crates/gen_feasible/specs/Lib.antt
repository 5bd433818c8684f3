pub mod Feasible
