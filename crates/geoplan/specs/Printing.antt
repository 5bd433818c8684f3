use Rattle.std.specs.Prelude.{◌≡◌, ◌⊎◌, ℕ, List, ◌++◌}
use Rattle.shelf_io.specs.Faults.{Rose}
use Rattle.shelf_io.specs.Written.{with_written}
use Rattle.shelf_io.specs.States.{SinkState}

-- How much of the text of an outcome was printed. This project's own.

-- the beginning of a text was written
pub record WritesPrefix (text : List ℕ) (before now : SinkState) : Type 0 where
  pub piece : List ℕ
  pub rest : List ℕ
  pub begins : text ≡ piece ++ rest
  pub written : now.written ≡ with_written before.written piece

-- the whole text was written, and the sink counted no fault
pub record WritesAll (text : List ℕ) (before now : SinkState) : Type 0 where
  pub written : now.written ≡ with_written before.written text
  pub quiet : now.faults ≡ before.faults

-- the sink counted a fault, and the beginning of the text was written
abbrev pub IsCutShort : List ℕ → SinkState → SinkState → Type 0
IsCutShort text sink sink_now = Rose sink.faults sink_now.faults × WritesPrefix text sink sink_now

-- the text was written whole, or its beginning where the sink counted a fault
abbrev pub IsSaid : List ℕ → SinkState → SinkState → Type 0
IsSaid text sink sink_now = WritesAll text sink sink_now ⊎ IsCutShort text sink sink_now

-- an outcome, and its text was printed whole
abbrev pub PrintsAll : (List ℕ → Type 0) → SinkState → SinkState → Type 0
PrintsAll Outcome sink sink_now = (text : List ℕ) × Outcome text × WritesAll text sink sink_now

-- an outcome, and its text was printed, or its beginning where the sink counted a fault
abbrev pub HasPrinted : (List ℕ → Type 0) → SinkState → SinkState → Type 0
HasPrinted Outcome sink sink_now = (text : List ℕ) × Outcome text × IsSaid text sink sink_now

-- an outcome, and the put of its text failed
abbrev pub FailsToPut : (List ℕ → Type 0) → SinkState → SinkState → Type 0
FailsToPut Outcome sink sink_now = (text : List ℕ) × Outcome text × IsCutShort text sink sink_now
