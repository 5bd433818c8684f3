use Rattle.std.specs.Prelude.{◌≡◌, ◌⊎◌, List, ◌++◌, ℕ, Option, Some, codes}
use Rattle.shelf_io.specs.Files.{Files, with_bytes}
use Rattle.shelf_io.specs.Faults.{Rose, KeepsFaults, write_of}
use Rattle.shelf_io.specs.States.{ShelfState}
use Rattle.gen_net.specs.Candidates.{candidates_text}
use Rattle.gen_net.specs.Points.{points_text}
use Rattle.geoplan.specs.CommandOf.{SourcesOf}

-- What `gen` ends with: the two tables of a seed, each under its name. This project's own.

-- what is printed once both are written
abbrev pub written_text : List ℕ
written_text = codes "written\n"

-- what the shelf holds once the points table of the seed stands under its name
abbrev pub with_points : SourcesOf → Option Files → Option Files
with_points sources held = with_bytes held sources.points (points_text sources.seed)

-- .. and the candidates table too
abbrev pub with_both : SourcesOf → Option Files → Option Files
with_both sources held = with_bytes (with_points sources held) sources.candidates (candidates_text sources.seed)

-- Both tables of the seed stand under their names, and every other name holds what it held.
pub record WritesTables (sources : SourcesOf) (before now : ShelfState) (text : List ℕ) : Type 0 where
  pub written : now.held ≡ with_both sources before.held
  pub quiet : KeepsFaults before now
  pub printed : text ≡ written_text

-- ---- a table that is not whole

-- the name holds the beginning of a text, and every other name what it held
pub record BeganFile (name text : List ℕ) (before now : Option Files) : Type 0 where
  pub piece : List ℕ
  pub rest : List ℕ
  pub begins : text ≡ piece ++ rest
  pub written : now ≡ with_bytes before name piece

-- nothing was written, or the beginning of a text under its name
abbrev pub MayHaveBegun : List ℕ → List ℕ → Option Files → Option Files → Type 0
MayHaveBegun name text before now = (now ≡ before) ⊎ BeganFile name text before now

-- the beginning of the seed's points table was written, or all of it and the beginning of the candidates table
abbrev pub BeganTables : SourcesOf → Option Files → Option Files → Type 0
BeganTables sources before now =
    BeganFile sources.points (points_text sources.seed) before now
    ⊎ BeganFile sources.candidates (candidates_text sources.seed) (with_points sources before) now

-- a write of the points' name failed, and the candidates are untouched
pub record FailsAtPoints (sources : SourcesOf) (before now : ShelfState) : Type 0 where
  pub last : now.last_fault ≡ Some (write_of sources.points)
  pub held : MayHaveBegun sources.points (points_text sources.seed) before.held now.held

-- a write of the candidates' name failed, and the points are whole
pub record FailsAtCandidates (sources : SourcesOf) (before now : ShelfState) : Type 0 where
  pub last : now.last_fault ≡ Some (write_of sources.candidates)
  pub held : MayHaveBegun sources.candidates (candidates_text sources.seed) (with_points sources before.held) now.held

-- a write of one of the two names failed in this call
pub record FailsToWriteTables (sources : SourcesOf) (before now : ShelfState) : Type 0 where
  pub rose : Rose before.faults now.faults
  pub stands : FailsAtPoints sources before now ⊎ FailsAtCandidates sources before now
