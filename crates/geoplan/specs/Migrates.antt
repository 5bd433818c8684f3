use Rattle.std.specs.Prelude.{◌≡◌, ◌⊎◌, ℕ, List, Option, Some, codes}
use Rattle.shelf_io.specs.Files.{Files, with_bytes}
use Rattle.shelf_io.specs.Faults.{Rose, KeepsFaults, write_of}
use Rattle.shelf_io.specs.States.{ShelfState}
use Rattle.geo_model.specs.Network.{IsNetwork}
use Rattle.bound_log.specs.Sound.{IsLowerBound}
use Rattle.log_check.specs.declared.replaying.Replayed.{Replayed}
use Rattle.log_check.specs.Replayed.{IsReplayed}
use Rattle.log_migrate.specs.Migrated.{IsMigrated, NeedsTooMany}
use Rattle.geoplan.specs.Outcomes.{IsRightLog, IsWrongLog}
use Rattle.geoplan.specs.Tables.{TablesOf}
use Rattle.geoplan.specs.WrittenTables.{BeganFile}

-- What `migrate` ends with: a log that is read, and written in format 2 under another name. This project's own.

-- what is printed once the new log is written
abbrev pub migrated_text : List ℕ
migrated_text = codes "migrated\n"

-- what is printed where the log uses more cuts than a log of format 2 can name
abbrev pub too_many_cuts_text : List ℕ
too_many_cuts_text = codes "too many cuts\n"

-- ---- the new log

-- A log of the tables' network with this bound and these counts comes to this new one: it is of format 2, has the same tree, and
-- so the same bound and counts. A log of format 2 is copied; for one of format 1 each cut is named once, right before the first
-- line that uses it.
pub record IsNewLog (tables : TablesOf) (log new : List ℕ) (done : Replayed) : Type 0 where
  pub replayed : IsReplayed tables.network log done
  pub again : IsReplayed tables.network new done
  pub migrated : IsMigrated tables.network replayed.tree log new

-- The new log stands under its name, and every other name holds what it held. Every plan that meets the limits costs at least
-- the bound of both logs.
pub record MigratesLog (tables : TablesOf) (name log : List ℕ) (before now : ShelfState) (text : List ℕ) : Type 0 where
  pub done : Replayed
  pub new : List ℕ
  pub network : IsNetwork tables.network
  pub comes : IsNewLog tables log new done
  pub lower : IsLowerBound tables.network done.bound
  pub written : now.held ≡ with_bytes before.held name new
  pub quiet : KeepsFaults before now
  pub printed : text ≡ migrated_text

-- the name holds the beginning of the new log, and every other name what it held
pub record BeganNewLog (tables : TablesOf) (name log : List ℕ) (before now : Option Files) : Type 0 where
  pub done : Replayed
  pub new : List ℕ
  pub comes : IsNewLog tables log new done
  pub began : BeganFile name new before now

-- a write of the name failed, which holds what it held, or the beginning of the new log
pub record FailsToMigrate (tables : TablesOf) (name log : List ℕ) (before now : ShelfState) : Type 0 where
  pub rose : Rose before.faults now.faults
  pub last : now.last_fault ≡ Some (write_of name)
  pub held : (now.held ≡ before.held) ⊎ BeganNewLog tables name log before.held now.held

-- ---- a log that has none

-- The text that was read is a log of the tables' network that uses more cuts than a log of format 2 can name. Nothing is
-- written.
pub record RefusesCuts (tables : TablesOf) (log : List ℕ) (before now : ShelfState) (text : List ℕ) : Type 0 where
  pub done : Replayed
  pub network : IsNetwork tables.network
  pub replayed : IsReplayed tables.network log done
  pub many : NeedsTooMany replayed.tree log
  pub held : now.held ≡ before.held
  pub quiet : KeepsFaults before now
  pub printed : text ≡ too_many_cuts_text

-- ---- which status comes

-- a text is a log of the tables' network, and there is a log of format 2 that it comes to
pub record HasNewLog (tables : TablesOf) (log : List ℕ) : Type 0 where
  pub right : IsRightLog tables log
  pub new : List ℕ
  pub migrated : IsMigrated tables.network right.replayed.tree log new

-- a text is a log of the tables' network, and uses too many cuts
pub record HasTooManyCuts (tables : TablesOf) (log : List ℕ) : Type 0 where
  pub right : IsRightLog tables log
  pub many : NeedsTooMany right.replayed.tree log

-- the status of a migration: 0 exactly where the text is a log that comes to one of format 2, 15 exactly where it is one that
-- uses too many cuts, 8 exactly where it is no log, or want of memory
abbrev pub IsMigrateStatus : TablesOf → List ℕ → ℕ → Type 0
IsMigrateStatus tables log status =
    ((status ≡ 0) × HasNewLog tables log) ⊎ (((status ≡ 15) × HasTooManyCuts tables log)
    ⊎ (((status ≡ 8) × IsWrongLog tables log) ⊎ (status ≡ 7)))
