pub mod Verdict
pub mod Room
pub mod Chain
pub mod Judging
pub mod Certified
