pub mod Within
pub mod Brought
pub mod Keeping
