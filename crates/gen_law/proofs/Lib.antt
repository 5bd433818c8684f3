pub mod Coefficients
pub mod Energies
pub mod RowSums
pub mod Squares
