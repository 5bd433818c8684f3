use Rattle.branch_bound.specs.Cuts.{GotCuts}
use Rattle.branch_bound.proofs.cuts.Cuts.program_past.Given as goal

abbrev pub invariant-loop : goal.invariant-loop
invariant-loop l = GotCuts l.network l.fn.self l.self
