use Rattle.std.specs.Prelude.{◌≡◌, ◌⊎◌, ℕ, List, []}
use Rattle.shelf_io.specs.Faults.{KeepsFaults}
use Rattle.shelf_io.specs.States.{ShelfState}
use Rattle.geoplan.specs.CommandOf.{CommandOf, files_read}
use Rattle.geoplan.specs.Ends.{Completes, EndsWithNone, EndsOpen, EndsAtLog, EndsAtCuts, EndsUnwritten, Began}
use Rattle.geoplan.specs.Outcomes.{RefusesTable, RefusesLength, FailsToRead, IsUnread}
use Rattle.geoplan.specs.declared.status.Status.{Status}
use Rattle.geoplan.specs.declared.status.Status.TheVariants as status

-- Which outcome each status of a command has. Only private clauses and proofs cite it. This project's own.

-- memory ran out: the shelf holds what it held, or the beginning of what the command writes besides, it counted no fault but
-- that of a failed read of a file of the command, and nothing is to be printed
pub record RunsOut (command : CommandOf) (before now : ShelfState) (text : List ℕ) : Type 0 where
  pub held : (now.held ≡ before.held) ⊎ Began command before.held now.held
  pub cause : KeepsFaults before now ⊎ IsUnread (files_read command) before now
  pub printed : text ≡ []

-- what a status of a command says before anything is printed
abbrev pub IsOutcomeOf : CommandOf → ShelfState → ShelfState → Status → List ℕ → Type 0
IsOutcomeOf command before now status.Found text = Completes command before now text
IsOutcomeOf command before now status.NoPlan text = EndsWithNone command before now text
IsOutcomeOf command before now status.WordsRefused text = ⊥
IsOutcomeOf command before now status.TableRefused text = RefusesTable command before now text
IsOutcomeOf command before now status.Undecided text = EndsOpen command before now text
IsOutcomeOf command before now status.ReadFault text = FailsToRead (files_read command) before now text
IsOutcomeOf command before now status.WriteFault text = EndsUnwritten command before now × (text ≡ [])
IsOutcomeOf command before now status.NoMemory text = RunsOut command before now text
IsOutcomeOf command before now status.LogRefused text = EndsAtLog command before now text
IsOutcomeOf command before now status.FileTooLong text = RefusesLength command before now text
IsOutcomeOf command before now status.TooManyCuts text = EndsAtCuts command before now text
