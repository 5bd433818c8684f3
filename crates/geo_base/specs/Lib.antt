pub mod Counter
pub mod Division
pub mod Grid
pub mod Root
