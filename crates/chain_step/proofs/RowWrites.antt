-- Rows that are written place by place.
use Rattle.std.proofs.Common.{◌≡◌, ℕ, ◌^◌, ◌≤◌, List, set, arith, ℤ, pos, ◌+ℤ◌, ◌≤ℤ◌, unsigned_abs}
use Rattle.std.proofs.lemmas.Int.{ints}
use Rattle.std.proofs.lemmas.List.{get_or-set_other}
use Rattle.whole_algebra.specs.Matrices.{at}

-- what is not written stays
pub unwritten : (row : List ℤ) (m i : ℕ) (number : ℤ) → (i ≡ m → ⊥) → at (set row m number) i ≡ at row i
unwritten row m i number apart = get_or-set_other row m i number (pos 0) apart

pub sum_size : (c f : ℤ) → unsigned_abs c ≤ 2 ^ 120 → unsigned_abs f ≤ 2 ^ 124 → unsigned_abs (c +ℤ f) ≤ 2 ^ 126
sum_size c f h g = omega (arith, ints)

pub whole_size : (c f : ℤ) → unsigned_abs c ≤ 2 ^ 120 → unsigned_abs f ≤ 2 ^ 124 → unsigned_abs (c +ℤ f) ≤ 2 ^ 125
whole_size c f h g = omega (arith, ints)

pub count_size : (c g : ℤ) → unsigned_abs c ≤ 2 ^ 40 → pos 0 ≤ℤ g → g ≤ℤ pos 1 → unsigned_abs (c +ℤ g) ≤ 2 ^ 126
count_size c g h low high = omega (arith, ints)

pub weaker : (m n : ℕ) → m ≤ 2 ^ 61 → m ≤ 2 ^ 126
weaker m n h = omega arith
