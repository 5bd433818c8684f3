use Rattle.std.proofs.Common.{◌≡◌, ◌<◌, ℕ, Some, slice_get}
use Rattle.cut_pool.specs.Cut.{CutOf}
use Rattle.branch_bound.proofs.cuts.number_of.Given as goal

abbrev pub invariant-loop-number : goal.invariant-loop-number
invariant-loop-number l = (k : ℕ) → k < l.number → (cut : CutOf) → slice_get l.pool k ≡ Some cut → (cut.limit ≡ l.limit) × (cut.x ≡ l.x) → ⊥
