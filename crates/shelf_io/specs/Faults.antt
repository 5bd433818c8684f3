-- Why a call on a shelf or a sink answered as it did. This project's own.
use Rattle.std.specs.Prelude.{◌≡◌, ℕ, ◌≤◌, List, Some, Result, Err, IsOk}
pub use Rattle.geo_base.specs.Counter.{next_count}
use Rattle.shelf_io.specs.declared.access.Access.TheVariants.{Read, Write}
use Rattle.shelf_io.specs.declared.part_answer.PartAnswer.{PartAnswer}
use Rattle.shelf_io.specs.declared.part_answer.PartAnswer.TheVariants as part_answer
use Rattle.shelf_io.specs.declared.read_answer.ReadAnswer.{ReadAnswer}
use Rattle.shelf_io.specs.declared.read_answer.ReadAnswer.TheVariants as read_answer
use Rattle.shelf_io.specs.declared.write_answer.WriteAnswer.{WriteAnswer}
use Rattle.shelf_io.specs.declared.write_answer.WriteAnswer.TheVariants as write_answer
use Rattle.shelf_io.specs.States.{LastFault, ShelfState, SinkState}

-- a read of the name failed
abbrev pub read_of : List ℕ → LastFault
read_of name = record { access = Read; name = name }

-- a write of the name failed
abbrev pub write_of : List ℕ → LastFault
write_of name = record { access = Write; name = name }

-- a count is greater now than before, or stands at 2^64 - 1, where a counter ends
abbrev pub Rose : ℕ → ℕ → Type 0
Rose before now = next_count before ≤ now

-- a call left the count of faults and the last fault as they were
pub record KeepsFaults (before now : ShelfState) : Type 0 where
  pub same_count : now.faults ≡ before.faults
  pub same_last : now.last_fault ≡ before.last_fault

-- what an answer to a read of the name says of the count of faults and of the last fault
pub record HasReadCause {T : Type 0} (answer : Result T ReadAnswer) (name : List ℕ) (before now : ShelfState) : Type 0 where
  -- a count never falls
  pub later : before.faults ≤ now.faults
  -- it failed only where the count rose in this call, and then this read is the last fault
  pub failed : answer ≡ Err read_answer.Failed → Rose before.faults now.faults × (now.last_fault ≡ Some (read_of name))
  -- any other answer counts no fault
  pub done : IsOk answer → KeepsFaults before now
  pub too_long : answer ≡ Err read_answer.TooLong → KeepsFaults before now
  pub no_memory : answer ≡ Err read_answer.NoMemory → KeepsFaults before now

-- what an answer to a read of a part of the name says of the count of faults and of the last fault
pub record HasPartCause {T : Type 0} (answer : Result T PartAnswer) (name : List ℕ) (before now : ShelfState) : Type 0 where
  -- a count never falls
  pub later : before.faults ≤ now.faults
  -- it failed only where the count rose in this call, and then this read is the last fault
  pub failed : answer ≡ Err part_answer.Failed → Rose before.faults now.faults × (now.last_fault ≡ Some (read_of name))
  -- any other answer counts no fault
  pub done : IsOk answer → KeepsFaults before now
  pub no_memory : answer ≡ Err part_answer.NoMemory → KeepsFaults before now

-- what an answer to a write of the name says of the count of faults and of the last fault
pub record HasWriteCause {T : Type 0} (answer : Result T WriteAnswer) (name : List ℕ) (before now : ShelfState) : Type 0 where
  -- a count never falls
  pub later : before.faults ≤ now.faults
  -- it failed only where the count rose in this call, and then this write is the last fault
  pub failed : answer ≡ Err write_answer.Failed → Rose before.faults now.faults × (now.last_fault ≡ Some (write_of name))
  -- any other answer counts no fault
  pub done : IsOk answer → KeepsFaults before now
  pub no_memory : answer ≡ Err write_answer.NoMemory → KeepsFaults before now

-- what a sink's answer says of its count of faults
pub record HasPutCause {T : Type 0} (answer : Result T WriteAnswer) (before now : SinkState) : Type 0 where
  -- a count never falls
  pub later : before.faults ≤ now.faults
  -- it failed only where the count rose in this call
  pub failed : answer ≡ Err write_answer.Failed → Rose before.faults now.faults
  -- any other answer counts no fault
  pub done : IsOk answer → now.faults ≡ before.faults
  pub no_memory : answer ≡ Err write_answer.NoMemory → now.faults ≡ before.faults
