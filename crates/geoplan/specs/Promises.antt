use Rattle.std.specs.Prelude.{◌≡◌, ◌⊎◌, ℕ, List, [], ◌∷◌, nat_eq, IsTrue, Contains, Option, Some}
use Rattle.std.specs.List.{list_any}
use Rattle.std.specs.FinMap.{get}
use Rattle.shelf_io.specs.Files.{Files}
use Rattle.shelf_io.specs.Faults.{KeepsFaults}
use Rattle.shelf_io.specs.States.{SinkState, ShelfState}
use Rattle.geoplan.specs.CommandOf.{CommandOf, files_read, written_by, OnCommand}
use Rattle.geoplan.specs.Ends.{ends_of, EndsUnwritten, Began, HasReport, HasText}
use Rattle.geoplan.specs.Input.{InputOf, no_input, too_long_input, refused_input, built_input}
use Rattle.geoplan.specs.Outcomes.{IsUnread}
use Rattle.geoplan.specs.Printing.{WritesPrefix, FailsToPut}

-- What the top call promises besides the outcomes. This project's own.

-- the exit statuses of the program
abbrev pub IsStatus : ℕ → Type 0
IsStatus status = IsTrue (list_any (nat_eq status) (0 ∷ 1 ∷ 2 ∷ 3 ∷ 4 ∷ 5 ∷ 6 ∷ 7 ∷ 8 ∷ 9 ∷ 15 ∷ []))

-- ---- failed writes, and want of memory

-- a write of a file of the command failed, and nothing was printed; or the put of a report failed
abbrev pub IsUnwritten : CommandOf → ShelfState → ShelfState → SinkState → SinkState → Type 0
IsUnwritten command before now sink sink_now =
    (EndsUnwritten command before now × (sink_now.written ≡ sink.written)) ⊎ FailsToPut (HasReport command before now) sink sink_now

-- the shelf counted no fault, or a read of a file of the command failed and is its latest fault
abbrev pub HasNoWriteFault : List (List ℕ) → ShelfState → ShelfState → Type 0
HasNoWriteFault words before now = KeepsFaults before now ⊎ OnCommand words (λ command. IsUnread (files_read command) before now)

-- memory ran out: no write failed, and no put. The shelf holds what it held, or the beginning of what the command writes
-- besides, and nothing was printed, or the beginning of the text of the outcome that stands
pub record RanOut (words : List (List ℕ)) (before now : ShelfState) (sink sink_now : SinkState) : Type 0 where
  pub cause : HasNoWriteFault words before now
  pub quiet : sink_now.faults ≡ sink.faults
  pub held : (now.held ≡ before.held) ⊎ OnCommand words (λ command. Began command before.held now.held)
  pub printed : (sink_now.written ≡ sink.written) ⊎ ((text : List ℕ) × HasText words before now text × WritesPrefix text sink sink_now)

-- ---- what stays

-- where the shelf tells what it holds, before and after, P holds of the two
abbrev pub WhereHeld : Option Files → Option Files → (Files → Files → Type 0) → Type 0
WhereHeld before now P = (files after : Files) → before ≡ Some files → now ≡ Some after → P files after

-- every name but those that the command may write holds what it held
abbrev pub OthersStay : List (List ℕ) → Files → Files → Type 0
OthersStay words files after = (name : List ℕ) → (Contains (written_by words) name → ⊥) → get after name ≡ get files name

-- ---- which status comes

-- the status of accepted words where no fault was counted
abbrev pub IsComplete : CommandOf → Files → ℕ → Type 0
IsComplete command files status = (ends_of command.verb command.sources).answers files status

-- the status of accepted words whatever faults were counted: a file that is too long or a table with a fault is refused,
-- but for a failed read and want of memory
abbrev pub IsRefusedBy : InputOf → ℕ → Type 0
IsRefusedBy no_input status = Unit {0}
IsRefusedBy (too_long_input name) status = (status ≡ 9) ⊎ ((status ≡ 5) ⊎ (status ≡ 7))
IsRefusedBy (refused_input fault) status = (status ≡ 3) ⊎ ((status ≡ 5) ⊎ (status ≡ 7))
IsRefusedBy (built_input tables) status = Unit {0}
