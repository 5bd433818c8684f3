use Rattle.std.proofs.Common.{◌≡◌, ◌<◌, ℕ, length}
use Rattle.bound_log.specs.declared.bound.Bound.TheVariants.{AtLeast}
use Rattle.idle_splits.specs.UnitShares.{IsDearByKept}
use Rattle.idle_splits.proofs.quick.quick_share.Given as goal

abbrev pub invariant-loop-k : goal.invariant-loop-k
invariant-loop-k l = record {
  long : length l.room ≡ length l.network.candidates;
  none : (i : ℕ) → i < l.k → (candidate : ℕ) → IsDearByKept l.network l.node (AtLeast l.earlier) l.cuts i candidate → ⊥;
}
