use Rattle.std.specs.Prelude.{◌≡◌, ◌⊎◌, ℕ, ◌≤◌, List, [], Some}
use Rattle.shelf_io.specs.Files.{with_bytes}
use Rattle.shelf_io.specs.Faults.{Rose, KeepsFaults, write_of}
use Rattle.shelf_io.specs.States.{ShelfState}
use Rattle.shelf_io.specs.declared.write_answer.WriteAnswer.{WriteAnswer}
use Rattle.shelf_io.specs.declared.write_answer.WriteAnswer.TheVariants as write_answer
use Rattle.geoplan.specs.CommandOf.{SourcesOf}
use Rattle.geoplan.specs.WrittenTables.{with_both, WritesTables, MayHaveBegun, BeganTables, FailsToWriteTables}
use Rattle.geoplan.specs.declared.status.Status.{Status}
use Rattle.geoplan.specs.declared.status.Status.TheVariants as status

-- Files that are written whole. Only private clauses and proofs cite it. This project's own.

-- a text stands whole under a name
pub record WritesFile (name text : List ℕ) (before now : ShelfState) : Type 0 where
  pub written : now.held ≡ with_bytes before.held name text
  pub quiet : KeepsFaults before now

-- a text was not written under a name, or its beginning was
pub record FailsFile (name text : List ℕ) (why : WriteAnswer) (before now : ShelfState) : Type 0 where
  pub held : MayHaveBegun name text before.held now.held
  pub later : before.faults ≤ now.faults
  pub failed : why ≡ write_answer.Failed → Rose before.faults now.faults × (now.last_fault ≡ Some (write_of name))
  pub no_memory : why ≡ write_answer.NoMemory → KeepsFaults before now

-- both tables of a seed stand whole under their names
pub record WritesBoth (sources : SourcesOf) (before now : ShelfState) : Type 0 where
  pub written : now.held ≡ with_both sources before.held
  pub quiet : KeepsFaults before now

-- one of them doesn't
pub record FailsBoth (sources : SourcesOf) (why : WriteAnswer) (before now : ShelfState) : Type 0 where
  pub held : (now.held ≡ before.held) ⊎ BeganTables sources before.held now.held
  pub later : before.faults ≤ now.faults
  pub failed : why ≡ write_answer.Failed → FailsToWriteTables sources before now
  pub no_memory : why ≡ write_answer.NoMemory → KeepsFaults before now

-- memory ran out before both were written, or before that was said
pub record RunsOutWriting (sources : SourcesOf) (before now : ShelfState) (text : List ℕ) : Type 0 where
  pub held : (now.held ≡ before.held) ⊎ BeganTables sources before.held now.held
  pub quiet : KeepsFaults before now
  pub printed : text ≡ []

-- what a status says of the tables of a seed
abbrev pub Generates : SourcesOf → ShelfState → ShelfState → Status → List ℕ → Type 0
Generates sources before now status.Found text = WritesTables sources before now text
Generates sources before now status.NoPlan text = ⊥
Generates sources before now status.WordsRefused text = ⊥
Generates sources before now status.TableRefused text = ⊥
Generates sources before now status.Undecided text = ⊥
Generates sources before now status.ReadFault text = ⊥
Generates sources before now status.WriteFault text = FailsToWriteTables sources before now × (text ≡ [])
Generates sources before now status.NoMemory text = RunsOutWriting sources before now text
Generates sources before now status.LogRefused text = ⊥
Generates sources before now status.FileTooLong text = ⊥
Generates sources before now status.TooManyCuts text = ⊥
