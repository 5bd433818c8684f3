use Rattle.std.specs.Prelude.{◌≡◌, ℕ, List}
use Rattle.shelf_io.specs.Faults.{KeepsFaults}
use Rattle.shelf_io.specs.States.{ShelfState}
use Rattle.trial.specs.Surveyed.{survey_from}
use Rattle.trial.specs.TrialText.{trial_text}
use Rattle.geoplan.specs.Tables.{TablesOf}

-- What `trial` ends with. This project's own.

-- the answers to a script, over two tables
abbrev pub tables_trial_text : TablesOf → List ℕ → List ℕ
tables_trial_text tables script = trial_text (survey_from tables.points tables.candidates tables.network) script

-- each line of the script that was read has its answer, over the tables and their network
pub record AnswersScript (tables : TablesOf) (script : List ℕ) (before now : ShelfState) (text : List ℕ) : Type 0 where
  pub held : now.held ≡ before.held
  pub quiet : KeepsFaults before now
  pub printed : text ≡ tables_trial_text tables script
