pub mod PieceLemmas
pub mod Triangles
