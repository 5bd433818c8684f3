use Rattle.trial.proofs.Sessions.{undo_takes_changes_back}
use Rattle.trial.proofs.laws.undo_takes_changes_back.Goals as goal

pub returns : goal.returns
returns c = undo_takes_changes_back
