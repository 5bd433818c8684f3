-- What contracts above see of a shelf and of a sink at one moment. This project's own.
use Rattle.std.specs.Prelude.{ℕ, List, Option, None}
use Rattle.shelf_io.specs.declared.access.Access.{Access}
use Rattle.shelf_io.specs.Files.{Files}

-- the latest call of a shelf that answered `Failed`: whether it read or wrote, and the bytes of its name
pub record LastFault : Type 0 where
  pub access : Access
  pub name : List ℕ

-- the state of a shelf: the files that it holds, where it tells them; how many calls failed, and the latest of them; and
-- the name that was started and may be appended to
pub record ShelfState : Type 0 where
  pub held : Option Files
  pub faults : ℕ
  pub last_fault : Option LastFault
  pub started : Option (List ℕ)

-- a shelf of which no call was made
abbrev pub new_shelf : Option Files → ShelfState
new_shelf held = record { held = held; faults = 0; last_fault = None; started = None }

-- the state of a sink: the bytes that were written, where it tells them, and how many calls failed
pub record SinkState : Type 0 where
  pub written : Option (List ℕ)
  pub faults : ℕ

-- a sink of which no call was made
abbrev pub new_sink : Option (List ℕ) → SinkState
new_sink written = record { written = written; faults = 0 }
