pub mod Form
pub mod Grid
