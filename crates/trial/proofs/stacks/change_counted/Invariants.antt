use Rattle.trial.specs.Stacks.{IsChanged}
use Rattle.trial.proofs.Zips.{IsWritten}
use Rattle.trial.proofs.stacks.change_counted.Given as goal

abbrev pub invariant-loop-stack : goal.invariant-loop-stack
invariant-loop-stack g l = IsWritten (IsChanged l.network l.i l.chosen) l.stack-index l.initial.stacks l.stacks
