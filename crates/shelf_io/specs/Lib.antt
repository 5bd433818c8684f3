pub mod Files
pub mod States
pub mod Faults
pub mod Stored
pub mod Written
pub mod FailingCalls
pub mod MemShelf
pub mod MemSink
