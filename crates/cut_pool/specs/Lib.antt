pub mod Cut
pub mod Pool
