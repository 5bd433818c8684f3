-- What the contract of the top call says, in the order of reading: CommandOf, Input, Tables, Texts, Outcomes, Trials,
-- WrittenTables, Benches, Migrates, Ends, Printing, Promises, and Checked for the law beside it. The other modules are for
-- private clauses and proofs.
pub mod CommandOf
pub mod Tables
pub mod Input
pub mod Texts
pub mod Outcomes
pub mod Trials
pub mod WrittenTables
pub mod Benches
pub mod Migrates
pub mod Ends
pub mod Printing
pub mod Promises
pub mod Checked
pub mod CommandView
pub mod Codes
pub mod Standing
pub mod Loading
pub mod Solving
pub mod Reporting
pub mod Parts
pub mod Trying
pub mod Writing
pub mod Migrating
pub mod Running
