-- The matrix after a pivot, entry by entry, as code reckons it: without forming the product of the pivot and an entry.
use Rattle.std.proofs.Common.{◌≡◌, ℕ, zero, suc, ◌+◌, ◌<◌, List, [], ◌∷◌, map, length, refl, ◌∙◌, ap, ap₂, arith, ℤ, pos, ◌+ℤ◌, ◌-ℤ◌, ◌*ℤ◌, neg_ℤ, ◌<ℤ◌}
use Rattle.whole_algebra.specs.Sums.{int_sum}
use Rattle.whole_algebra.specs.Rounding.{floor_over, gap_over, ceil_over}
use Rattle.whole_algebra.specs.Matrices.{at, plus_lists, scale, entries, schur, off_sums, slacks, lower_over, upper_over, IsTriangle}
use Rattle.whole_algebra.specs.Grid.{row_at}
use Rattle.whole_algebra.proofs.Ring.{add_comm, add_assoc, mul_comm, neg_mul}
use Rattle.whole_algebra.proofs.Rounding.{floor_shift, gap_shift}
use Rattle.whole_algebra.proofs.Shapes.{at-plus_lists}
use Rattle.whole_algebra.proofs.Places.{at-row_at-schur, lower_over-right, lower_over-diagonal, upper_over-right, upper_over-diagonal}

pub ceil_shift : (a c n : ℤ) → pos 0 <ℤ a → ceil_over a (a *ℤ c +ℤ n) ≡ c +ℤ ceil_over a n
ceil_shift a c n h = ap₂ (λ s t. s +ℤ t) (floor_shift a c n h) (gap_shift a c n h) ∙ add_assoc c (floor_over a n) (gap_over a n)

-- right of the diagonal both chains have c_ij + floor (- b_i b_j / a)
pub lower_step-right : (a : ℤ) (b : List ℤ) (m : List (List ℤ)) (i k : ℕ) → pos 0 <ℤ a
    → at (row_at (lower_over a (schur a b m)) i) (suc k) ≡ at (row_at m i) (suc k) +ℤ floor_over a (neg_ℤ (at b i *ℤ at b (i + suc k)))
lower_step-right a b m i k h =
    lower_over-right a (schur a b m) i k h
    ∙ ap (floor_over a) (at-row_at-schur a b m i (suc k))
    ∙ floor_shift a (at (row_at m i) (suc k)) (neg_ℤ (at b i *ℤ at b (i + suc k))) h

pub upper_step-right : (a : ℤ) (b : List ℤ) (m : List (List ℤ)) (i k : ℕ) → pos 0 <ℤ a
    → at (row_at (upper_over a (schur a b m)) i) (suc k) ≡ at (row_at m i) (suc k) +ℤ floor_over a (neg_ℤ (at b i *ℤ at b (i + suc k)))
upper_step-right a b m i k h =
    upper_over-right a (schur a b m) i k h
    ∙ ap (floor_over a) (at-row_at-schur a b m i (suc k))
    ∙ floor_shift a (at (row_at m i) (suc k)) (neg_ℤ (at b i *ℤ at b (i + suc k))) h

on_diagonal : (a : ℤ) (b : List ℤ) (m : List (List ℤ)) (i : ℕ) → at (row_at (schur a b m) i) 0 ≡ a *ℤ at (row_at m i) 0 +ℤ neg_ℤ (at b i *ℤ at b i)
on_diagonal a b m i = at-row_at-schur a b m i 0 ∙ ap (λ j. a *ℤ at (row_at m i) 0 -ℤ at b i *ℤ at b j) (none_more i)
  where
    none_more : (i : ℕ) → i + 0 ≡ i
    none_more i = omega arith

pub lower_step-diagonal : (a : ℤ) (b : List ℤ) (m : List (List ℤ)) (i : ℕ) → pos 0 <ℤ a
    → at (row_at (lower_over a (schur a b m)) i) 0 ≡ at (row_at m i) 0 +ℤ floor_over a (neg_ℤ (at b i *ℤ at b i)) -ℤ at (slacks a (schur a b m)) i
lower_step-diagonal a b m i h =
    lower_over-diagonal a (schur a b m) i h
    ∙ ap (λ t. t -ℤ at (slacks a (schur a b m)) i)
    (ap (floor_over a) (on_diagonal a b m i) ∙ floor_shift a (at (row_at m i) 0) (neg_ℤ (at b i *ℤ at b i)) h)

pub upper_step-diagonal : (a : ℤ) (b : List ℤ) (m : List (List ℤ)) (i : ℕ) → pos 0 <ℤ a
    → at (row_at (upper_over a (schur a b m)) i) 0 ≡ at (row_at m i) 0 +ℤ ceil_over a (neg_ℤ (at b i *ℤ at b i)) +ℤ at (slacks a (schur a b m)) i
upper_step-diagonal a b m i h =
    upper_over-diagonal a (schur a b m) i h
    ∙ ap (λ t. t +ℤ at (slacks a (schur a b m)) i)
    (ap (ceil_over a) (on_diagonal a b m i) ∙ ceil_shift a (at (row_at m i) 0) (neg_ℤ (at b i *ℤ at b i)) h)

-- ---- the slack of a step is told by the pivot's row alone
gap_of_entry : (a r c d : ℤ) → pos 0 <ℤ a → gap_over a (a *ℤ r +ℤ neg_ℤ c *ℤ d) ≡ gap_over a (neg_ℤ (c *ℤ d))
gap_of_entry a r c d h = gap_shift a r (neg_ℤ c *ℤ d) h ∙ ap (gap_over a) (neg_mul c d)

gaps_of_row : (a c : ℤ) (r b : List ℤ) → pos 0 <ℤ a → length r ≡ length b
    → int_sum (map (gap_over a) (plus_lists (scale a r) (scale (neg_ℤ c) b))) ≡ int_sum (map (λ d. gap_over a (neg_ℤ (c *ℤ d))) b)
gaps_of_row a c [] [] h e = refl
gaps_of_row a c [] (d ∷ b) h e = absurd (omega arith)
gaps_of_row a c (p ∷ r) [] h e = absurd (omega arith)
gaps_of_row a c (p ∷ r) (d ∷ b) h e = ap₂ (λ s t. s +ℤ t) (gap_of_entry a p c d h) (gaps_of_row a c r b h (omega arith))

gap_at_row : (a c : ℤ) (r b : List ℤ) (i : ℕ) → pos 0 <ℤ a → length r ≡ length b → i < length b
    → at (map (gap_over a) (plus_lists (scale a r) (scale (neg_ℤ c) b))) i ≡ gap_over a (neg_ℤ (at b i *ℤ c))
gap_at_row a c [] b i h e lt = absurd (omega arith)
gap_at_row a c (p ∷ r) [] i h e lt = absurd (omega arith)
gap_at_row a c (p ∷ r) (d ∷ b) zero h e lt = gap_of_entry a p c d h ∙ ap (λ t. gap_over a (neg_ℤ t)) (mul_comm c d)
gap_at_row a c (p ∷ r) (d ∷ b) (suc i) h e lt = gap_at_row a c r b i h (omega arith) (omega arith)

-- the slack of row i and the gap of its diagonal are the gaps of - b_i b_j / a over all j
pub slack_of_step : (a : ℤ) (n : ℕ) (b : List ℤ) (m : List (List ℤ)) (i : ℕ) → pos 0 <ℤ a → length b ≡ n → IsTriangle n m → i < n
    → at (slacks a (schur a b m)) i +ℤ gap_over a (neg_ℤ (at b i *ℤ at b i)) ≡ int_sum (map (λ c. gap_over a (neg_ℤ (at b i *ℤ c))) b)
slack_of_step a zero b m i h e t lt = absurd (omega arith)
slack_of_step a (suc n) [] m i h e t lt = absurd (omega arith)
slack_of_step a (suc n) (c ∷ b) [] i h e t lt = absurd t
slack_of_step a (suc n) (c ∷ b) ([] ∷ rest) i h e t lt = absurd (omega (arith, t.0))
slack_of_step a (suc n) (c ∷ b) ((p ∷ r) ∷ rest) zero h e t lt =
    ap (λ s. s +ℤ gap_over a (neg_ℤ (c *ℤ c))) (gaps_of_row a c r b h (omega (arith, t.0)))
    ∙ add_comm (int_sum (map (λ d. gap_over a (neg_ℤ (c *ℤ d))) b)) (gap_over a (neg_ℤ (c *ℤ c)))
slack_of_step a (suc n) (c ∷ b) ((p ∷ r) ∷ rest) (suc i) h e t lt =
    ap (λ s. s +ℤ gap_over a (neg_ℤ (at b i *ℤ at b i)))
    (at-plus_lists (map (gap_over a) (plus_lists (scale a r) (scale (neg_ℤ c) b))) (off_sums (entries (gap_over a) (schur a b rest))) i
    ∙ ap (λ s. s +ℤ at (slacks a (schur a b rest)) i) (gap_at_row a c r b i h (omega (arith, t.0)) (omega arith)))
    ∙ add_assoc (gap_over a (neg_ℤ (at b i *ℤ c))) (at (slacks a (schur a b rest)) i) (gap_over a (neg_ℤ (at b i *ℤ at b i)))
    ∙ ap (λ s. gap_over a (neg_ℤ (at b i *ℤ c)) +ℤ s) (slack_of_step a n b rest i h (omega arith) t.1 (omega arith))
