use Rattle.std.specs.Prelude.{◌≡◌, ◌⊎◌, ◌≤◌, List, ℕ, length}
use Rattle.shelf_io.specs.Files.{Files, bytes_of}
use Rattle.shelf_io.specs.States.{ShelfState}
use Rattle.log_check.specs.declared.replaying.Replayed.{Replayed}
use Rattle.log_check.specs.Replayed.{IsReplayed}
use Rattle.geoplan.specs.declared.file_kind.FileKind.TheVariants as kind
use Rattle.geoplan.specs.declared.verb.Verb.TheVariants as verb
use Rattle.geoplan.specs.CommandOf.{SourcesOf, CommandOf, most_of}
use Rattle.geoplan.specs.Input.{built_input, input_of}
use Rattle.geoplan.specs.Outcomes.{AcceptsLog}
use Rattle.geoplan.specs.Promises.{IsComplete}
use Rattle.geoplan.specs.Tables.{TablesOf}

-- What `check` makes of the files that `plan` left. This project's own.

-- `plan` of some words, and `check` of the same
abbrev pub planning : SourcesOf → CommandOf
planning sources = record { verb = verb.Plan; sources = sources }

abbrev pub checking : SourcesOf → CommandOf
checking sources = record { verb = verb.Check; sources = sources }

-- The text under the log's name is a log of the tables' network with this bound and these counts. Where it has at most so
-- many bytes as `check` reads, `check` finds the same tables, and with no fault counted its status is 0 or want of memory.
-- Wherever it accepts the log, it is with this bound and these counts.
pub record ChecksWith (sources : SourcesOf) (tables : TablesOf) (done : Replayed) (after : Files) : Type 0 where
  pub replayed : IsReplayed tables.network (bytes_of after sources.log) done
  pub checked : length (bytes_of after sources.log) ≤ most_of kind.Log → input_of (checking sources) after ≡ built_input tables
  pub status : length (bytes_of after sources.log) ≤ most_of kind.Log → (s : ℕ) → IsComplete (checking sources) after s → (s ≡ 0) ⊎ (s ≡ 7)
  pub same : (found : TablesOf) → input_of (checking sources) after ≡ built_input found → (before now : ShelfState) (text : List ℕ) →
      (accepts : AcceptsLog found (bytes_of after sources.log) before now text) → accepts.done ≡ done
