pub mod Fillings
pub mod Idle
pub mod NoIdle
pub mod Tests
pub mod UnitCuts
pub mod UnitShares
