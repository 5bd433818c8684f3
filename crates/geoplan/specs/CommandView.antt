use Rattle.std.specs.Prelude.{◌≤◌, ◌==◌, if◌then◌else◌, ℕ, List, [], ◌∷◌, option_map}
use Rattle.geoplan.specs.declared.command.Command.{Command}
use Rattle.geoplan.specs.declared.file_kind.FileKind.{FileKind}
use Rattle.geoplan.specs.declared.file_kind.FileKind.TheVariants as kind
use Rattle.geoplan.specs.declared.shape.WordShape.{WordShape}
use Rattle.geoplan.specs.declared.shape.WordShape.TheVariants as shape
use Rattle.geoplan.specs.declared.sources.Sources.{Sources}
use Rattle.geoplan.specs.CommandOf.{RoleOf, file_role, redundancy_role, seed_role, SourcesOf, CommandOf}

-- Commands as their bytes, and the shapes of their words. Only private clauses and proofs cite it.

-- two tables, a redundancy, and further files
abbrev pub job : List RoleOf → List RoleOf
job files = file_role kind.Points ∷ file_role kind.Candidates ∷ redundancy_role ∷ files

-- what the further words of a command of this shape stand for
abbrev pub roles_for : WordShape → List RoleOf
roles_for shape.Tables = file_role kind.Points ∷ file_role kind.Candidates ∷ []
roles_for (shape.Job last) = job (file_role last ∷ [])
roles_for (shape.JobWithStations last) = job (file_role last ∷ file_role kind.Stations ∷ [])
roles_for shape.Migration = job (file_role kind.Log ∷ file_role kind.NewLog ∷ [])
roles_for shape.MigrationWithStations = job (file_role kind.Log ∷ file_role kind.NewLog ∷ file_role kind.Stations ∷ [])
roles_for shape.SeedAndTables = seed_role ∷ file_role kind.Points ∷ file_role kind.Candidates ∷ []
roles_for shape.Seed = seed_role ∷ []

abbrev pub sources_view : Sources → SourcesOf
sources_view sources = record { points = sources.points.now; candidates = sources.candidates.now; redundancy = sources.redundancy; stations = option_map (λ name. name.now) sources.stations; log = sources.log.now; new_log = sources.new_log.now; script = sources.script.now; seed = sources.seed }

-- what the words of a job stand for, and those of a migration, where there are so many
abbrev pub job_roles : FileKind → ℕ → List RoleOf
job_roles last count = if count == 5 then roles_for (shape.JobWithStations last) else roles_for (shape.Job last)

abbrev pub migration_roles : ℕ → List RoleOf
migration_roles count = if count == 6 then roles_for shape.MigrationWithStations else roles_for shape.Migration

-- its numbers are of so many digits as are accepted
pub record HasShortNumbers (sources : Sources) : Type 0 where
  pub redundancy : sources.redundancy ≤ 999
  pub seed : sources.seed ≤ 999999

abbrev pub command_view : Command → CommandOf
command_view command = record { verb = command.verb; sources = sources_view command.sources }
