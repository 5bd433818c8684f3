use Rattle.std.specs.Prelude.{IfSome}
use Rattle.bound_log.specs.LogTree.{IsOpenAt}
use Rattle.branch_bound.proofs.branch.supplier_of.Given as goal

abbrev pub invariant-loop-unknown : goal.invariant-loop-unknown
invariant-loop-unknown l = IfSome l.found (λ choice. IsOpenAt l.fn.network l.fn.node choice.candidate)
