pub mod Verdicts
pub mod ChainSteps
pub mod Judged
pub mod ChainRun
pub mod Plans
pub mod Squares
pub mod Values
pub mod CertifiedLemmas
