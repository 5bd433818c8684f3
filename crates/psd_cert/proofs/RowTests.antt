-- The tests of a row, as the loops of the code make them: each takes sizes off the room that is left.
use Rattle.std.proofs.Common.{◌≡◌, ℕ, suc, ◌+◌, ◌-◌, ◌^◌, ◌<◌, ◌≤◌, true, false, List, take, sym, ◌∙◌, ap, subst, arith, ℤ, pos, ◌+ℤ◌, ◌-ℤ◌, ◌≤ℤ◌, ◌<ℤ◌, unsigned_abs, int_lt}
use Rattle.std.proofs.lemmas.Int.{ints}
use Rattle.whole_algebra.specs.Sums.{int_sum}
use Rattle.whole_algebra.specs.Matrices.{at}
use Rattle.whole_algebra.specs.Chains.{beside}
use Rattle.whole_algebra.specs.Grid.{row_at, above}
use Rattle.lent_parts.specs.Triangle.{IsTri}
use Rattle.psd_cert.specs.LeftOver.{left_over, left_sizes}
use Rattle.psd_cert.proofs.LeftOverLaws.{above_more, above_at_most, beside_more, beside_at_most, beside_whole}

-- the sum up to here and the next size, taken off
one_off : (room rest size sum more : ℤ) → rest ≡ room -ℤ sum → pos 0 ≤ℤ rest → pos 0 ≤ℤ size → more ≡ sum +ℤ size → int_lt rest size ≡ false
    → unsigned_abs rest ≤ 2 ^ 125 → (unsigned_abs (rest -ℤ size) ≤ 2 ^ 125) × (rest -ℤ size ≡ room -ℤ more) × (pos 0 ≤ℤ (rest -ℤ size))
one_off room rest size sum more e low g f h k = (omega (arith, ints), omega (arith, ints), omega (arith, ints))

none_left : (room rest size sum more whole : ℤ) → rest ≡ room -ℤ sum → more ≡ sum +ℤ size → more ≤ℤ whole → int_lt rest size ≡ true → room <ℤ whole
none_left room rest size sum more whole e f g h = omega (arith, ints)

nonneg_size : (n : ℕ) → pos 0 ≤ℤ pos n
nonneg_size n = omega (arith, ints)

-- ---- the column above the diagonal
pub column_stop : (s : ℤ) (m r : List (List ℤ)) (i j : ℕ) (room rest size z : ℤ)
    → j < i → rest ≡ room -ℤ above (left_sizes s m r) i j → size ≡ pos (unsigned_abs z) → z ≡ at (row_at (left_over s m r) j) (i - j)
    → int_lt rest size ≡ true → room <ℤ above (left_sizes s m r) i i
column_stop s m r i j room rest size z lt e f g h =
    none_left room rest size (above (left_sizes s m r) i j) (above (left_sizes s m r) i (j + 1)) (above (left_sizes s m r) i i) e
    (above_more s m r i j ∙ ap (λ t. above (left_sizes s m r) i j +ℤ t) (sym (f ∙ ap (λ t. pos (unsigned_abs t)) g)))
    (above_at_most s m r i (j + 1) (omega arith)) h

pub column_step : (s : ℤ) (m r : List (List ℤ)) (i j : ℕ) (room rest size z : ℤ)
    → rest ≡ room -ℤ above (left_sizes s m r) i j → pos 0 ≤ℤ rest → unsigned_abs rest ≤ 2 ^ 125 → size ≡ pos (unsigned_abs z) → z ≡ at (row_at (left_over s m r) j) (i - j)
    → int_lt rest size ≡ false
    → (unsigned_abs (rest -ℤ size) ≤ 2 ^ 125) × (rest -ℤ size ≡ room -ℤ above (left_sizes s m r) i (j + 1)) × (pos 0 ≤ℤ (rest -ℤ size))
column_step s m r i j room rest size z e low k f g h =
    one_off room rest size (above (left_sizes s m r) i j) (above (left_sizes s m r) i (j + 1)) e low (subst (λ t. pos 0 ≤ℤ t) (sym f) (nonneg_size (unsigned_abs z)))
    (above_more s m r i j ∙ ap (λ t. above (left_sizes s m r) i j +ℤ t) (sym (f ∙ ap (λ t. pos (unsigned_abs t)) g))) h k

-- ---- the row right of the diagonal
pub beside_stop : (s : ℤ) (n : ℕ) (m r : List (List ℤ)) (i k : ℕ) (room rest size z : ℤ)
    → IsTri (suc n) m → IsTri n r → i < n → k < n - i - 1 → rest ≡ room -ℤ int_sum (take k (beside (row_at (left_sizes s m r) i)))
    → size ≡ pos (unsigned_abs z) → z ≡ at (row_at (left_over s m r) i) (k + 1)
    → int_lt rest size ≡ true → room <ℤ int_sum (beside (row_at (left_sizes s m r) i))
beside_stop s n m r i k room rest size z t u lt below e f g h =
    none_left room rest size (int_sum (take k (beside (row_at (left_sizes s m r) i)))) (int_sum (take (k + 1) (beside (row_at (left_sizes s m r) i)))) (int_sum (beside (row_at (left_sizes s m r) i))) e
    (beside_more s m r i k ∙ ap (λ t. int_sum (take k (beside (row_at (left_sizes s m r) i))) +ℤ t) (sym (f ∙ ap (λ t. pos (unsigned_abs t)) g)))
    (beside_at_most s n m r i (k + 1) t u lt (omega arith)) h

pub beside_step : (s : ℤ) (m r : List (List ℤ)) (i k : ℕ) (room rest size z : ℤ)
    → rest ≡ room -ℤ int_sum (take k (beside (row_at (left_sizes s m r) i))) → pos 0 ≤ℤ rest → unsigned_abs rest ≤ 2 ^ 125
    → size ≡ pos (unsigned_abs z) → z ≡ at (row_at (left_over s m r) i) (k + 1) → int_lt rest size ≡ false
    → (unsigned_abs (rest -ℤ size) ≤ 2 ^ 125) × (rest -ℤ size ≡ room -ℤ int_sum (take (k + 1) (beside (row_at (left_sizes s m r) i)))) × (pos 0 ≤ℤ (rest -ℤ size))
beside_step s m r i k room rest size z e low w f g h =
    one_off room rest size (int_sum (take k (beside (row_at (left_sizes s m r) i)))) (int_sum (take (k + 1) (beside (row_at (left_sizes s m r) i)))) e low (subst (λ t. pos 0 ≤ℤ t) (sym f) (nonneg_size (unsigned_abs z)))
    (beside_more s m r i k ∙ ap (λ t. int_sum (take k (beside (row_at (left_sizes s m r) i))) +ℤ t) (sym (f ∙ ap (λ t. pos (unsigned_abs t)) g))) h w

pub beside_end : (s : ℤ) (n : ℕ) (m r : List (List ℤ)) (i k : ℕ) (room rest : ℤ)
    → IsTri (suc n) m → IsTri n r → i < n → k ≡ n - i - 1 → rest ≡ room -ℤ int_sum (take k (beside (row_at (left_sizes s m r) i))) → pos 0 ≤ℤ rest
    → int_sum (beside (row_at (left_sizes s m r) i)) ≤ℤ room
beside_end s n m r i k room rest t u lt end e low =
    enough room rest (int_sum (take k (beside (row_at (left_sizes s m r) i)))) (int_sum (beside (row_at (left_sizes s m r) i))) e low
    (ap (λ j. int_sum (take j (beside (row_at (left_sizes s m r) i)))) end ∙ beside_whole s n m r i t u lt)
  where
    enough : (room rest p q : ℤ) → rest ≡ room -ℤ p → pos 0 ≤ℤ rest → p ≡ q → q ≤ℤ room
    enough room rest p q e low f = omega (arith, ints)
