pub mod FieldText
pub mod Mark
pub mod Rows
pub mod Reading
pub mod Header
pub mod Faults
