-- A lower chain that doesn't stop shows a form that is nowhere negative.
use Rattle.std.proofs.Common.{◌≡◌, ℕ, zero, suc, ◌-◌, ◌≤◌, Bool, true, false, cond, ◌&&◌, List, [], ◌∷◌, map, length, get_or, refl, sym, ◌∙◌, ap₂, subst, arith, ℤ, pos, negsuc, ◌+ℤ◌, ◌*ℤ◌, neg_ℤ, ◌≤ℤ◌, ◌<ℤ◌, int_le}
use Rattle.std.specs.List.{list_all}
use Rattle.std.proofs.lemmas.Int.{ints}
use Rattle.whole_algebra.specs.Sums.{dot}
use Rattle.whole_algebra.specs.Rounding.{is_zero}
use Rattle.whole_algebra.specs.Matrices.{quad, schur, lower_over}
use Rattle.whole_algebra.specs.Chains.{Step, free, pivot, stop, size_limit, is_too_large, step_of, left_after, chain_rows, chain_steps, stops, stop_value, pivot_value, pivot_at}
use Rattle.whole_algebra.proofs.Order.{le_refl, mul_nonneg, square_nonneg, nonneg_of_mul}
use Rattle.whole_algebra.proofs.Square.{completed_square}
use Rattle.whole_algebra.proofs.Slack.{lower_is_below}
use Rattle.whole_algebra.proofs.Normal.{ring, x0, x1, lit, ◌⊕◌, ◌⊗◌}

-- what holds of each step that a row may give
pub step_cases : (P : Step → Type 0) (a : ℤ) (b : List ℤ)
    → (is_zero a && list_all is_zero b ≡ true → P free)
    → (is_zero a && list_all is_zero b ≡ false → int_le a (pos 0) ≡ true → P (stop a))
    → (int_le a (pos 0) ≡ false → is_too_large a b ≡ true → P (stop (neg_ℤ size_limit)))
    → (int_le a (pos 0) ≡ false → is_too_large a b ≡ false → P (pivot a))
    → P (step_of (a ∷ b))
step_cases P a b at_free at_stop at_large at_pivot =
    first (is_zero a && list_all is_zero b) (int_le a (pos 0)) (is_too_large a b) refl refl refl
  where
    first : (s t u : Bool) → is_zero a && list_all is_zero b ≡ s → int_le a (pos 0) ≡ t → is_too_large a b ≡ u
        → P (cond s free (cond t (stop a) (cond u (stop (neg_ℤ size_limit)) (pivot a))))
    first true t u e f g = at_free e
    first false true u e f g = at_stop e f
    first false false true e f g = at_large f g
    first false false false e f g = at_pivot f g

pub and_left : (s t : Bool) → s && t ≡ true → s ≡ true
and_left true t e = refl
and_left false t e = e

pub and_right : (s t : Bool) → s && t ≡ true → t ≡ true
and_right true t e = e
and_right false t e = absurd (false_is_not_true e)
  where
    false_is_not_true : false ≡ true → ⊥
    false_is_not_true e = cc

pub is_zero-true : (a : ℤ) → is_zero a ≡ true → a ≡ pos 0
is_zero-true (pos zero) e = refl
is_zero-true (pos (suc n)) e = absurd (apart e)
  where
    apart : false ≡ true → ⊥
    apart e = cc
is_zero-true (negsuc n) e = absurd (apart e)
  where
    apart : false ≡ true → ⊥
    apart e = cc

pub positive : (a : ℤ) → int_le a (pos 0) ≡ false → pos 0 <ℤ a
positive a e = omega (arith, ints)

-- a list of zeros has the product 0 with each list
pub dot-zeros : (b y : List ℤ) → list_all is_zero b ≡ true → dot b y ≡ pos 0
dot-zeros [] y e = refl
dot-zeros (c ∷ b) [] e = refl
dot-zeros (c ∷ b) (x ∷ y) e =
    ap₂ (λ s t. s *ℤ x +ℤ t) (is_zero-true c (and_left (is_zero c) (list_all is_zero b) e)) (dot-zeros b y (and_right (is_zero c) (list_all is_zero b) e))
    ∙ ring (lit 0 ⊗ x0 ⊕ lit 0) (lit 0) (x ∷ []) refl

-- a first row of zeros adds nothing
pub quad-free : (a : ℤ) (b : List ℤ) (m : List (List ℤ)) (x : ℤ) (y : List ℤ) → is_zero a && list_all is_zero b ≡ true
    → quad ((a ∷ b) ∷ m) (x ∷ y) ≡ quad m y
quad-free a b m x y e =
    ap₂ (λ s t. s *ℤ (x *ℤ x) +ℤ pos 2 *ℤ (x *ℤ t) +ℤ quad m y)
    (is_zero-true a (and_left (is_zero a) (list_all is_zero b) e)) (dot-zeros b y (and_right (is_zero a) (list_all is_zero b) e))
    ∙ ring (lit 0 ⊗ (x0 ⊗ x0) ⊕ lit 2 ⊗ (x0 ⊗ lit 0) ⊕ x1) x1 (x ∷ quad m y ∷ []) refl

-- ---- the lower chain
pivot_nonneg : (a : ℤ) (b : List ℤ) (m : List (List ℤ)) (x : ℤ) (y : List ℤ) → pos 0 <ℤ a → pos 0 ≤ℤ quad (lower_over a (schur a b m)) y
    → pos 0 ≤ℤ quad ((a ∷ b) ∷ m) (x ∷ y)
pivot_nonneg a b m x y h k =
    let z = a *ℤ x +ℤ dot b y in
    let below = lower_is_below a (schur a b m) y h in
    let p = mul_nonneg a (quad (lower_over a (schur a b m)) y) (omega (arith, ints)) k in
    let s = square_nonneg z in
    nonneg_of_mul a (quad ((a ∷ b) ∷ m) (x ∷ y)) h
    (by (a *ℤ quad ((a ∷ b) ∷ m) (x ∷ y)) (z *ℤ z) (quad (schur a b m) y) (a *ℤ quad (lower_over a (schur a b m)) y) (completed_square a b m x y) s below p)
  where
    by : (t s q l : ℤ) → t ≡ s +ℤ q → pos 0 ≤ℤ s → l ≤ℤ q → pos 0 ≤ℤ l → pos 0 ≤ℤ t
    by t s q l e u v w = omega (arith, ints)

-- a list of at most n numbers
pub lower_nonneg : (n : ℕ) (m : List (List ℤ)) (x : List ℤ) → length x ≤ n → stops (chain_steps lower_over n m) ≡ false → pos 0 ≤ℤ quad m x
lower_nonneg n [] x le e = le_refl (pos 0)
lower_nonneg n (row ∷ rest) [] le e = le_refl (pos 0)
lower_nonneg zero (row ∷ rest) (x ∷ y) le e = absurd (omega arith)
lower_nonneg (suc n) ([] ∷ rest) (x ∷ y) le e =
    let more = lower_nonneg n rest y (omega arith) e in
    omega (arith, ints)
lower_nonneg (suc n) ((a ∷ b) ∷ rest) (x ∷ y) le e =
    let short : length y ≤ n = omega arith in
    step_cases (λ s. stops (s ∷ map step_of (chain_rows lower_over n (left_after lower_over s b rest))) ≡ false → pos 0 ≤ℤ quad ((a ∷ b) ∷ rest) (x ∷ y)) a b
    (λ zeros h. subst (λ q. pos 0 ≤ℤ q) (sym (quad-free a b rest x y zeros)) (lower_nonneg n rest y short h))
    (λ _ _ h. absurd (apart h))
    (λ _ _ h. absurd (apart h))
    (λ above _ h. pivot_nonneg a b rest x y (positive a above) (lower_nonneg n (lower_over a (schur a b rest)) y short h))
    e
  where
    apart : true ≡ false → ⊥
    apart e = cc

-- ---- what the steps of a chain are
pub step_value : (row : List ℤ) → (pos 0 ≤ℤ pivot_value (step_of row)) × (stop_value (step_of row ∷ []) ≤ℤ pos 0)
step_value [] = (le_refl (pos 0), le_refl (pos 0))
step_value (a ∷ b) =
    step_cases (λ s. (pos 0 ≤ℤ pivot_value s) × (stop_value (s ∷ []) ≤ℤ pos 0)) a b
    (λ _. (le_refl (pos 0), le_refl (pos 0)))
    (λ _ low. (le_refl (pos 0), omega (arith, ints)))
    (λ _ _. (le_refl (pos 0), omega (arith, ints)))
    (λ above _. (omega (arith, ints, positive a above), le_refl (pos 0)))

stop_value-cons : (s : Step) (t : List Step) → stop_value (s ∷ []) ≤ℤ pos 0 → stop_value t ≤ℤ pos 0 → stop_value (s ∷ t) ≤ℤ pos 0
stop_value-cons free t h k = k
stop_value-cons (pivot a) t h k = k
stop_value-cons (stop v) t h k = h

pub stop_value-low : (rows : List (List ℤ)) → stop_value (map step_of rows) ≤ℤ pos 0
stop_value-low [] = le_refl (pos 0)
stop_value-low (row ∷ rows) = stop_value-cons (step_of row) (map step_of rows) (step_value row).1 (stop_value-low rows)

step_at : (rows : List (List ℤ)) (k : ℕ) → pos 0 ≤ℤ pivot_value (get_or (map step_of rows) k free)
step_at [] k = le_refl (pos 0)
step_at (row ∷ rows) zero = (step_value row).0
step_at (row ∷ rows) (suc k) = step_at rows k

pub pivot_at-nonneg : (rows : List (List ℤ)) (k : ℕ) → pos 0 ≤ℤ pivot_at (map step_of rows) k
pivot_at-nonneg rows k = step_at rows (k - 1)
