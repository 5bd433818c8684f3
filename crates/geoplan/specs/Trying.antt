use Rattle.std.specs.Prelude.{◌⊎◌, ℕ, List}
use Rattle.shelf_io.specs.States.{ShelfState}
use Rattle.geoplan.specs.declared.file_kind.FileKind.TheVariants as kind
use Rattle.geoplan.specs.declared.load.LoadFault.{LoadFault}
use Rattle.geoplan.specs.declared.status.Status.{Status}
use Rattle.geoplan.specs.declared.status.Status.TheVariants as status
use Rattle.geoplan.specs.CommandOf.{SourcesOf, file_of}
use Rattle.geoplan.specs.Loading.{ReadsFile, FailsRead}
use Rattle.geoplan.specs.Reporting.{Ends, Refused}
use Rattle.geoplan.specs.Tables.{TablesOf}
use Rattle.geoplan.specs.Trials.{tables_trial_text}

-- A script that is read and answered. Only private clauses and proofs cite it. This project's own.

-- the status and the text of a script that is read, and answered over tables
abbrev pub Tries : TablesOf → SourcesOf → ShelfState → ShelfState → Status → List ℕ → Type 0
Tries tables sources before now ends text =
    ((script : List ℕ) × ReadsFile (file_of sources kind.Script) script before now × Ends status.Found (tables_trial_text tables script) ends text)
    ⊎ ((why : LoadFault) × FailsRead (file_of sources kind.Script) why before now × Refused why ends text)
