use Rattle.std.specs.Prelude.{IfSome}
use Rattle.bound_log.specs.LogTree.{IsOpenAt}
use Rattle.branch_bound.proofs.branch.supplier_at.Given as goal

abbrev pub invariant-loop-i : goal.invariant-loop-i
invariant-loop-i l = IfSome l.best (λ choice. IsOpenAt l.fn.network l.fn.node choice.candidate)
