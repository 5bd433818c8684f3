use Rattle.std.proofs.Common.{◌≡◌, ℕ, ◌<◌, get_or, false}
use Rattle.factor_stack.specs.Image.{touches}
use Rattle.factor_stack.proofs.first_place.first_place_in.Given as goal

abbrev pub invariant-loop-place : goal.invariant-loop-place
invariant-loop-place l = (j : ℕ) → j < l.place → touches l.candidate (get_or l.grid.order j 0) ≡ false
