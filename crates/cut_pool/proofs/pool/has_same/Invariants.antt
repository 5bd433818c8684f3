use Rattle.std.proofs.Common.{◌≡◌, ℕ, ◌<◌, get_or}
use Rattle.cut_pool.specs.Cut.{CutOf}
use Rattle.cut_pool.specs.Pool.{IsSameCut}
use Rattle.cut_pool.proofs.pool.has_same.Given as goal

abbrev pub invariant-loop-number : goal.invariant-loop-number
invariant-loop-number l = (k : ℕ) → k < l.number → (x : CutOf) → get_or l.cuts k x ≡ x → IsSameCut x l.cut → ⊥
