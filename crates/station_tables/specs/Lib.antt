pub mod StationTable
pub mod Occupied
