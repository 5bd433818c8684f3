-- What the contract of a run says: Bench. Searched is for private clauses and proofs.
pub mod Bench
pub mod Searched
