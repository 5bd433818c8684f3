use Rattle.std.proofs.Common.{◌≡◌, ℕ, ◌<◌, None}
use Rattle.std.specs.Prelude.{IfSome}
use Rattle.bound_log.specs.LogTree.{IsOpenAt}
use Rattle.branch_bound.proofs.branch.weightiest.Given as goal

abbrev pub invariant-loop-candidate : goal.invariant-loop-candidate
invariant-loop-candidate l = record {
  open_one : IfSome l.found (λ choice. IsOpenAt l.fn.network l.fn.node choice.candidate);
  none : l.found ≡ None → (k : ℕ) → k < l.candidate → IsOpenAt l.fn.network l.fn.node k → ⊥;
}
