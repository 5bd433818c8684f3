use Rattle.std.proofs.Common.{◌<◌, ℕ}
use Rattle.geo_model.specs.Limit.{LimitOf}
use Rattle.idle_splits.specs.Idle.{IsLoadedAt}
use Rattle.branch_bound.proofs.cuts.point_cut.Given as goal

abbrev pub invariant-loop-limit : goal.invariant-loop-limit
invariant-loop-limit l = (number : ℕ) → number < l.limit → (limit : LimitOf) → IsLoadedAt l.network number l.unknown limit → ⊥
