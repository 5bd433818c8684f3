use Rattle.branch_bound.specs.Cuts.{GotCuts}
use Rattle.branch_bound.proofs.cuts.Cuts.add_sought.Given as goal

abbrev pub invariant-loop-proposal : goal.invariant-loop-proposal
invariant-loop-proposal l =
    (goal.iterator-loop-proposal).can_next l.proposal-iterator ×
    (goal.iterator-loop-proposal).is_finite l.proposal-iterator ×
    GotCuts l.network l.fn.self l.self
