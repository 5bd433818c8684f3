use Rattle.std.proofs.Common.{◌≡◌, take}
use Rattle.design_rows.specs.Rows.{coefficient_at}
use Rattle.design_rows.proofs.entries.coefficient_at.Given as goal

abbrev pub invariant-loop-term : goal.invariant-loop-term
invariant-loop-term l = l.sum ≡ coefficient_at (take l.term-index l.terms) l.wanted
