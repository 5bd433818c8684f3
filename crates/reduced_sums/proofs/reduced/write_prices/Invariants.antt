use Rattle.std.proofs.Common.{◌≡◌, ℕ, ◌*◌, ◌<◌, pos, get_or}
use Rattle.whole_algebra.specs.Matrices.{at}
use Rattle.geo_model.specs.Prices.{prices_of}
use Rattle.reduced_sums.proofs.reduced.write_prices.Given as goal

-- the candidates so far have their prices
abbrev pub invariant-loop-i : goal.invariant-loop-i
invariant-loop-i l = (k : ℕ) → k < l.i → at l.reduced k ≡ pos (l.divisor * get_or (prices_of l.network).candidates k 0)
