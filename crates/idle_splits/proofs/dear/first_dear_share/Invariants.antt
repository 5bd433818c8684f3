use Rattle.std.proofs.Common.{◌<◌, ℕ}
use Rattle.bound_log.specs.declared.bound.Bound.TheVariants.{AtLeast}
use Rattle.idle_splits.specs.UnitShares.{IsDearByKept}
use Rattle.idle_splits.proofs.dear.first_dear_share.Given as goal

abbrev pub invariant-loop-candidate : goal.invariant-loop-candidate
invariant-loop-candidate l = (j : ℕ) → j < l.candidate → IsDearByKept l.network l.node (AtLeast l.earlier) l.cuts l.k j → ⊥
