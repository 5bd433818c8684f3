use Rattle.idle_splits.specs.Fillings.{IsPlanOf}
use Rattle.idle_splits.proofs.fill.fill_up.Given as goal

abbrev pub invariant-loop-offer : goal.invariant-loop-offer
invariant-loop-offer l = IsPlanOf l.node l.room
