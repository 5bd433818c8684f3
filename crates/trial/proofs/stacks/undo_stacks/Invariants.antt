use Rattle.trial.specs.Stacks.{IsUndone}
use Rattle.trial.proofs.Zips.{IsWritten}
use Rattle.trial.proofs.stacks.undo_stacks.Given as goal

abbrev pub invariant-loop-stack : goal.invariant-loop-stack
invariant-loop-stack l = IsWritten IsUndone l.stack-index l.initial.stacks l.stacks
