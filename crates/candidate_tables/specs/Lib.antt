pub mod Kinds
pub mod Places
pub mod Lines
pub mod CandidateTable
pub mod Accepted
pub mod Read
