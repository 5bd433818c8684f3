pub mod Triangle
pub mod Lending
pub mod TriLending
pub mod Pieces
pub mod PieceLaws
pub mod Walks
