use Rattle.std.specs.Prelude.{◌≡◌, ◌⊎◌, ℕ, List, []}
use Rattle.shelf_io.specs.Faults.{KeepsFaults}
use Rattle.shelf_io.specs.States.{ShelfState}
use Rattle.geoplan.specs.declared.file_kind.FileKind.TheVariants as kind
use Rattle.geoplan.specs.declared.load.LoadFault.{LoadFault}
use Rattle.geoplan.specs.declared.status.Status.{Status}
use Rattle.geoplan.specs.declared.status.Status.TheVariants as status
use Rattle.geoplan.specs.CommandOf.{SourcesOf, file_of}
use Rattle.geoplan.specs.Loading.{ReadsFile, FailsRead}
use Rattle.geoplan.specs.Migrates.{MigratesLog, BeganNewLog, FailsToMigrate, RefusesCuts}
use Rattle.geoplan.specs.Outcomes.{RefusesLog}
use Rattle.geoplan.specs.Reporting.{Refused}
use Rattle.geoplan.specs.Tables.{TablesOf}

-- A log that is read and written in format 2. Only private clauses and proofs cite it. This project's own.

-- memory ran out before the new log was written, or before that was said, and no fault was counted
pub record RunsOutMigrating (tables : TablesOf) (name log : List ℕ) (before now : ShelfState) (text : List ℕ) : Type 0 where
  pub held : (now.held ≡ before.held) ⊎ BeganNewLog tables name log before.held now.held
  pub quiet : KeepsFaults before now
  pub printed : text ≡ []

-- what a status says of a log that is written in format 2 under a name
abbrev pub Migrates : TablesOf → List ℕ → List ℕ → ShelfState → ShelfState → Status → List ℕ → Type 0
Migrates tables name log before now status.Found text = MigratesLog tables name log before now text
Migrates tables name log before now status.NoPlan text = ⊥
Migrates tables name log before now status.WordsRefused text = ⊥
Migrates tables name log before now status.TableRefused text = ⊥
Migrates tables name log before now status.Undecided text = ⊥
Migrates tables name log before now status.ReadFault text = ⊥
Migrates tables name log before now status.WriteFault text = FailsToMigrate tables name log before now × (text ≡ [])
Migrates tables name log before now status.NoMemory text = RunsOutMigrating tables name log before now text
Migrates tables name log before now status.LogRefused text = RefusesLog tables log before now text
Migrates tables name log before now status.FileTooLong text = ⊥
Migrates tables name log before now status.TooManyCuts text = RefusesCuts tables log before now text

-- .. of one that is read first, or was not read
abbrev pub MigratesRead : TablesOf → SourcesOf → ShelfState → ShelfState → Status → List ℕ → Type 0
MigratesRead tables sources before now ends text =
    ((log : List ℕ) × (middle : ShelfState) × ReadsFile (file_of sources kind.Log) log before middle × Migrates tables sources.new_log log middle now ends text)
    ⊎ ((why : LoadFault) × FailsRead (file_of sources kind.Log) why before now × Refused why ends text)
