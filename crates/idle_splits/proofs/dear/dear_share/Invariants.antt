use Rattle.std.proofs.Common.{◌<◌, ℕ}
use Rattle.bound_log.specs.declared.bound.Bound.TheVariants.{AtLeast}
use Rattle.idle_splits.specs.UnitShares.{IsDearByKept}
use Rattle.idle_splits.proofs.dear.dear_share.Given as goal

abbrev pub invariant-loop-k : goal.invariant-loop-k
invariant-loop-k l = (i : ℕ) → i < l.k → (candidate : ℕ) → IsDearByKept l.network l.node (AtLeast l.earlier) l.cuts i candidate → ⊥
