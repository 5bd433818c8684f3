-- An upper chain that stops gives a list of whole numbers on which the form is negative.
use Rattle.std.proofs.Common.{◌≡◌, ℕ, zero, suc, ◌*◌, ◌^◌, ◌≤◌, Bool, true, false, ◌&&◌, ◌||◌, List, [], ◌∷◌, map, length, refl, sym, ◌∙◌, ap, ap₂, subst, arith, ℤ, pos, negsuc, ◌+ℤ◌, ◌-ℤ◌, ◌*ℤ◌, neg_ℤ, ◌≤ℤ◌, ◌<ℤ◌, int_lt, int_le}
use Rattle.std.specs.List.{list_all, list_any}
use Rattle.std.proofs.lemmas.Int.{ints}
use Rattle.whole_algebra.specs.Sums.{dot}
use Rattle.whole_algebra.specs.Rounding.{is_zero, floor_over, gap_over}
use Rattle.whole_algebra.specs.Matrices.{at, scale, quad, entries, schur, diagonal, plus_diagonal, slacks, upper_over, IsTriangle, padded}
use Rattle.whole_algebra.specs.Chains.{size_limit, step_of, left_after, chain_rows, chain_steps, stops}
use Rattle.whole_algebra.proofs.Ring.{mul_neg}
use Rattle.whole_algebra.proofs.Order.{mul_pos, mul_le_mul, square_nonneg, neg_of_mul}
use Rattle.whole_algebra.proofs.Rounding.{ceil_at_most, gap_range, floor_of_zero, gap_of_zero}
use Rattle.whole_algebra.proofs.SumLaws.{dot-nil, dot-scale_right}
use Rattle.whole_algebra.proofs.FormLaws.{quad-nil}
use Rattle.whole_algebra.proofs.Square.{completed_square}
use Rattle.whole_algebra.proofs.Slack.{upper_is_above}
use Rattle.whole_algebra.proofs.Shapes.{at-diagonal-entries, at-diagonal-plus_diagonal, at-diagonal-schur, at-off_sums_at_most, triangle-schur, triangle-upper_over, quad-padded, length-padded}
use Rattle.whole_algebra.proofs.ChainLaws.{step_cases, positive, quad-free}
use Rattle.whole_algebra.proofs.Normal.{ring, x0, x1, x2, x3, x4, lit, opposite_of, ◌⊕◌, ◌⊖◌, ◌⊗◌}

-- zeros, then c at place j
single : ℕ → ℤ → List ℤ
single zero c = c ∷ []
single (suc j) c = pos 0 ∷ single j c

dot-single : (b : List ℤ) (j : ℕ) (c : ℤ) → dot b (single j c) ≡ at b j *ℤ c
unfolding single
dot-single [] j c = ring (lit 0) (lit 0 ⊗ x0) (c ∷ []) refl
dot-single (d ∷ b) zero c = ap (λ t. d *ℤ c +ℤ t) (dot-nil b) ∙ ring (x0 ⊗ x1 ⊕ lit 0) (x0 ⊗ x1) (d ∷ c ∷ []) refl
dot-single (d ∷ b) (suc j) c = ap (λ t. d *ℤ pos 0 +ℤ t) (dot-single b j c) ∙ ring (x0 ⊗ lit 0 ⊕ x1) x1 (d ∷ (at b j *ℤ c) ∷ []) refl

quad-single : (m : List (List ℤ)) (j : ℕ) (c : ℤ) → quad m (single j c) ≡ at (diagonal m) j *ℤ (c *ℤ c)
unfolding single
quad-single [] j c = ring (lit 0) (lit 0 ⊗ (x0 ⊗ x0)) (c ∷ []) refl
quad-single ([] ∷ rest) zero c = ap (λ t. pos 0 +ℤ t) (quad-nil rest) ∙ ring (lit 0 ⊕ lit 0) (lit 0 ⊗ (x0 ⊗ x0)) (c ∷ []) refl
quad-single ([] ∷ rest) (suc j) c = ap (λ t. pos 0 +ℤ t) (quad-single rest j c) ∙ ring (lit 0 ⊕ x0) x0 ((at (diagonal rest) j *ℤ (c *ℤ c)) ∷ []) refl
quad-single ((a ∷ b) ∷ rest) zero c =
    ap₂ (λ s t. a *ℤ (c *ℤ c) +ℤ pos 2 *ℤ (c *ℤ s) +ℤ t) (dot-nil b) (quad-nil rest)
    ∙ ring (x0 ⊗ (x1 ⊗ x1) ⊕ lit 2 ⊗ (x1 ⊗ lit 0) ⊕ lit 0) (x0 ⊗ (x1 ⊗ x1)) (a ∷ c ∷ []) refl
quad-single ((a ∷ b) ∷ rest) (suc j) c =
    ap (λ t. a *ℤ (pos 0 *ℤ pos 0) +ℤ pos 2 *ℤ (pos 0 *ℤ dot b (single j c)) +ℤ t) (quad-single rest j c)
    ∙ ring (x0 ⊗ (lit 0 ⊗ lit 0) ⊕ lit 2 ⊗ (lit 0 ⊗ x1) ⊕ x2) x2 (a ∷ dot b (single j c) ∷ (at (diagonal rest) j *ℤ (c *ℤ c)) ∷ []) refl

-- a form on a list that begins with x and has c at one further place
quad-two : (a : ℤ) (b : List ℤ) (m : List (List ℤ)) (x : ℤ) (j : ℕ) (c : ℤ)
    → quad ((a ∷ b) ∷ m) (x ∷ single j c) ≡ a *ℤ (x *ℤ x) +ℤ pos 2 *ℤ (x *ℤ (at b j *ℤ c)) +ℤ at (diagonal m) j *ℤ (c *ℤ c)
quad-two a b m x j c =
    ap₂ (λ s t. a *ℤ (x *ℤ x) +ℤ pos 2 *ℤ (x *ℤ s) +ℤ t) (dot-single b j c) (quad-single m j c)

pub quad-scale : (a : ℤ) (m : List (List ℤ)) (y : List ℤ) → quad m (scale a y) ≡ (a *ℤ a) *ℤ quad m y
quad-scale a [] y = ring (lit 0) ((x0 ⊗ x0) ⊗ lit 0) (a ∷ []) refl
quad-scale a (row ∷ rest) [] = ring (lit 0) ((x0 ⊗ x0) ⊗ lit 0) (a ∷ []) refl
quad-scale a ([] ∷ rest) (y ∷ ys) =
    ap (λ t. pos 0 +ℤ t) (quad-scale a rest ys) ∙ ring (lit 0 ⊕ (x0 ⊗ x0) ⊗ x1) ((x0 ⊗ x0) ⊗ (lit 0 ⊕ x1)) (a ∷ quad rest ys ∷ []) refl
quad-scale a ((p ∷ b) ∷ rest) (y ∷ ys) =
    ap₂ (λ s t. p *ℤ ((a *ℤ y) *ℤ (a *ℤ y)) +ℤ pos 2 *ℤ ((a *ℤ y) *ℤ s) +ℤ t) (dot-scale_right a b ys) (quad-scale a rest ys)
    ∙ ring (x1 ⊗ ((x0 ⊗ x2) ⊗ (x0 ⊗ x2)) ⊕ lit 2 ⊗ ((x0 ⊗ x2) ⊗ (x0 ⊗ x3)) ⊕ (x0 ⊗ x0) ⊗ x4) ((x0 ⊗ x0) ⊗ (x1 ⊗ (x2 ⊗ x2) ⊕ lit 2 ⊗ (x2 ⊗ x3) ⊕ x4))
    (a ∷ p ∷ y ∷ dot b ys ∷ quad rest ys ∷ []) refl

-- ---- where a row stops
IsLargeAt : ℤ → List ℤ → Type 0
IsLargeAt k b = (j : ℕ) × (k <ℤ (at b j *ℤ at b j))

large_by : (k c : ℤ) (b : List ℤ) (t u : Bool) → int_lt k (c *ℤ c) ≡ t → (u ≡ true → IsLargeAt k b) → t || u ≡ true → IsLargeAt k (c ∷ b)
unfolding IsLargeAt
large_by k c b true u h more e = (zero, omega (arith, ints))
large_by k c b false u h more e = let p = more e in (suc p.0, p.1)

pub false_is_not_true : false ≡ true → ⊥
false_is_not_true e = cc

large_place : (k : ℤ) (b : List ℤ) → list_any (λ c. int_lt k (c *ℤ c)) b ≡ true → IsLargeAt k b
large_place k [] e = absurd (false_is_not_true e)
large_place k (c ∷ b) e = large_by k c b (int_lt k (c *ℤ c)) (list_any (λ d. int_lt k (d *ℤ d)) b) refl (λ h. large_place k b h) e

square_of_nonzero : (c : ℤ) → is_zero c ≡ false → pos 0 <ℤ (c *ℤ c)
square_of_nonzero (pos zero) e = absurd (apart e)
  where
    apart : true ≡ false → ⊥
    apart e = cc
square_of_nonzero (pos (suc n)) e = omega (arith, ints)
square_of_nonzero (negsuc n) e = omega (arith, ints)

nonzero_by : (c : ℤ) (b : List ℤ) (t u : Bool) → is_zero c ≡ t → (u ≡ false → IsLargeAt (pos 0) b) → t && u ≡ false → IsLargeAt (pos 0) (c ∷ b)
unfolding IsLargeAt
nonzero_by c b true u h more e = let p = more e in (suc p.0, p.1)
nonzero_by c b false u h more e = (zero, square_of_nonzero c h)

nonzero_place : (b : List ℤ) → list_all is_zero b ≡ false → IsLargeAt (pos 0) b
nonzero_place [] e = absurd (false_is_not_true (sym e))
nonzero_place (c ∷ b) e = nonzero_by c b (is_zero c) (list_all is_zero b) refl (λ h. nonzero_place b h) e

-- some list of whole numbers on which the form is negative
abbrev pub IsNegativeSomewhere : List (List ℤ) → Type 0
IsNegativeSomewhere m = (x : List ℤ) × (quad m x <ℤ pos 0)

-- the diagonal entry is negative
negative_head : (a : ℤ) (b : List ℤ) (m : List (List ℤ)) → a <ℤ pos 0 → IsNegativeSomewhere ((a ∷ b) ∷ m)
negative_head a b m h =
    let e : quad ((a ∷ b) ∷ m) (pos 1 ∷ []) ≡ a =
    ap₂ (λ s t. a *ℤ (pos 1 *ℤ pos 1) +ℤ pos 2 *ℤ (pos 1 *ℤ s) +ℤ t) (dot-nil b) (quad-nil m)
    ∙ ring (x0 ⊗ (lit 1 ⊗ lit 1) ⊕ lit 2 ⊗ (lit 1 ⊗ lit 0) ⊕ lit 0) x0 (a ∷ []) refl in
    (pos 1 ∷ [], subst (λ t. t <ℤ pos 0) (sym e) h)

-- beside a zero stands a number that isn't zero
zero_head : (b : List ℤ) (m : List (List ℤ)) → ((i : ℕ) → at (diagonal m) i ≤ℤ size_limit) → IsLargeAt (pos 0) b → IsNegativeSomewhere ((pos 0 ∷ b) ∷ m)
unfolding IsLargeAt
zero_head b m high p =
    let c = at b p.0 in
    let d = at (diagonal m) p.0 in
    let x = neg_ℤ (c *ℤ size_limit) in
    let e : quad ((pos 0 ∷ b) ∷ m) (x ∷ single p.0 (pos 1)) ≡ d -ℤ pos (2 ^ 62) *ℤ (c *ℤ c) =
    quad-two (pos 0) b m x p.0 (pos 1)
    ∙ ring (lit 0 ⊗ (opposite_of (x0 ⊗ lit (2 ^ 61)) ⊗ opposite_of (x0 ⊗ lit (2 ^ 61))) ⊕ lit 2 ⊗ (opposite_of (x0 ⊗ lit (2 ^ 61)) ⊗ (x0 ⊗ lit 1)) ⊕ x1 ⊗ (lit 1 ⊗ lit 1))
    (x1 ⊖ lit (2 ^ 62) ⊗ (x0 ⊗ x0)) (c ∷ d ∷ []) refl in
    (x ∷ single p.0 (pos 1), subst (λ t. t <ℤ pos 0) (sym e) (below d (c *ℤ c) (high p.0) p.1))
  where
    below : (d q : ℤ) → d ≤ℤ pos (2 ^ 61) → pos 0 <ℤ q → (d -ℤ pos (2 ^ 62) *ℤ q) <ℤ pos 0
    below d q h k = omega (arith, ints)

-- a number beside the pivot is too large
large_beside : (a : ℤ) (b : List ℤ) (m : List (List ℤ)) → pos 0 <ℤ a → ((i : ℕ) → at (diagonal m) i ≤ℤ size_limit) → IsLargeAt (a *ℤ size_limit) b
    → IsNegativeSomewhere ((a ∷ b) ∷ m)
unfolding IsLargeAt
large_beside a b m positive_a high p =
    let c = at b p.0 in
    let d = at (diagonal m) p.0 in
    let e : quad ((a ∷ b) ∷ m) (neg_ℤ c ∷ single p.0 a) ≡ neg_ℤ (a *ℤ (c *ℤ c -ℤ a *ℤ d)) =
    quad-two a b m (neg_ℤ c) p.0 a
    ∙ ring (x0 ⊗ (opposite_of x1 ⊗ opposite_of x1) ⊕ lit 2 ⊗ (opposite_of x1 ⊗ (x1 ⊗ x0)) ⊕ x2 ⊗ (x0 ⊗ x0)) (opposite_of (x0 ⊗ (x1 ⊗ x1 ⊖ x0 ⊗ x2)))
    (a ∷ c ∷ d ∷ []) refl in
    let most = mul_le_mul a d size_limit (omega (arith, ints)) (high p.0) in
    let product = mul_pos a (c *ℤ c -ℤ a *ℤ d) positive_a (apart (c *ℤ c) (a *ℤ d) (a *ℤ size_limit) most p.1) in
    (neg_ℤ c ∷ single p.0 a, subst (λ t. t <ℤ pos 0) (sym e) (opposite (a *ℤ (c *ℤ c -ℤ a *ℤ d)) product))
  where
    apart : (q r s : ℤ) → r ≤ℤ s → s <ℤ q → pos 0 <ℤ (q -ℤ r)
    apart q r s h k = omega (arith, ints)

    opposite : (t : ℤ) → pos 0 <ℤ t → neg_ℤ t <ℤ pos 0
    opposite t h = omega (arith, ints)

-- a list on which the next matrix is negative is lifted
lifted : (a : ℤ) (b : List ℤ) (m : List (List ℤ)) → pos 0 <ℤ a → IsNegativeSomewhere (upper_over a (schur a b m)) → IsNegativeSomewhere ((a ∷ b) ∷ m)
lifted a b m h p =
    let y = p.0 in
    let q = quad (schur a b m) y in
    let x = neg_ℤ (dot b y) in
    let above = upper_is_above a (schur a b m) y h in
    let negative = product_below a (quad (upper_over a (schur a b m)) y) h p.1 in
    let e : a *ℤ quad ((a ∷ b) ∷ m) (x ∷ scale a y) ≡ a *ℤ (a *ℤ q) =
    completed_square a b m x (scale a y)
    ∙ ap₂ (λ s t. (a *ℤ x +ℤ s) *ℤ (a *ℤ x +ℤ s) +ℤ t) (dot-scale_right a b y) (quad-scale a (schur a b m) y)
    ∙ ring ((x0 ⊗ opposite_of x1 ⊕ x0 ⊗ x1) ⊗ (x0 ⊗ opposite_of x1 ⊕ x0 ⊗ x1) ⊕ (x0 ⊗ x0) ⊗ x2) (x0 ⊗ (x0 ⊗ x2)) (a ∷ dot b y ∷ q ∷ []) refl in
    let first = product_below a q h (below q (a *ℤ quad (upper_over a (schur a b m)) y) above negative) in
    let second = product_below a (a *ℤ q) h first in
    (x ∷ scale a y, neg_of_mul a (quad ((a ∷ b) ∷ m) (x ∷ scale a y)) (weaker a h) (subst (λ t. t <ℤ pos 0) (sym e) second))
  where
    product_below : (a q : ℤ) → pos 0 <ℤ a → q <ℤ pos 0 → (a *ℤ q) <ℤ pos 0
    product_below a q h k =
        let r = mul_pos a (neg_ℤ q) h (omega (arith, ints)) in
        let s = mul_neg a q in
        omega (arith, ints)

    below : (q r : ℤ) → q ≤ℤ r → r <ℤ pos 0 → q <ℤ pos 0
    below q r h k = omega (arith, ints)

    weaker : (a : ℤ) → pos 0 <ℤ a → pos 0 ≤ℤ a
    weaker a h = omega (arith, ints)

-- ---- the diagonal grows by at most the number of rows
pub upper_diagonal : (a h : ℤ) (n : ℕ) (b : List ℤ) (m : List (List ℤ)) → pos 0 <ℤ a → length b ≡ n → IsTriangle n m
    → ((i : ℕ) → at (diagonal m) i ≤ℤ h) → (i : ℕ) → at (diagonal (upper_over a (schur a b m))) i ≤ℤ (h +ℤ pos n)
upper_diagonal a h n b m positive_a e t high i =
    let s = schur a b m in
    let d = at (diagonal s) i in
    let c = at (diagonal m) i in
    let outer = at-diagonal-plus_diagonal (plus_diagonal (entries (floor_over a) s) (diagonal (entries (gap_over a) s))) (slacks a s) i in
    let inner = at-diagonal-plus_diagonal (entries (floor_over a) s) (diagonal (entries (gap_over a) s)) i in
    let f = at-diagonal-entries (floor_over a) (floor_of_zero a positive_a) s i in
    let g = at-diagonal-entries (gap_over a) (gap_of_zero a positive_a) s i in
    let slack = at-off_sums_at_most (gap_over a) (λ z. (gap_range a z).1) n s i (triangle-schur a n b m e t) in
    let entry = at-diagonal-schur a b m i in
    let square = square_nonneg (at b i) in
    let ceiling = ceil_at_most a d c positive_a (omega (arith, ints)) in
    let bound = high i in
    summed (at (diagonal (upper_over a s)) i) (at (diagonal (plus_diagonal (entries (floor_over a) s) (diagonal (entries (gap_over a) s)))) i)
    (at (slacks a s) i) (at (diagonal (entries (floor_over a) s)) i) (at (diagonal (entries (gap_over a) s)) i) (floor_over a d) (gap_over a d) c h n
    outer inner f g slack ceiling bound
  where
    summed : (u v k p q f g c h : ℤ) (n : ℕ) → u ≡ v +ℤ k → v ≡ p +ℤ q → p ≡ f → q ≡ g → k ≤ℤ pos n → (f +ℤ g) ≤ℤ c → c ≤ℤ h → u ≤ℤ (h +ℤ pos n)
    summed u v k p q f g c h n e1 e2 e3 e4 l1 l2 l3 = omega (arith, ints)

-- ---- the upper chain
head_cases : (a : ℤ) (b : List ℤ) (m : List (List ℤ)) → is_zero a && list_all is_zero b ≡ false → int_le a (pos 0) ≡ true
    → ((i : ℕ) → at (diagonal m) i ≤ℤ size_limit) → IsNegativeSomewhere ((a ∷ b) ∷ m)
head_cases (pos zero) b m e low high = zero_head b m high (nonzero_place b e)
head_cases (pos (suc n)) b m e low high = absurd (omega (arith, ints))
head_cases (negsuc n) b m e low high = negative_head (negsuc n) b m (omega (arith, ints))

pub upper_negative : (n : ℕ) (m : List (List ℤ)) (h : ℤ) → IsTriangle n m → n ≤ 64 → ((i : ℕ) → at (diagonal m) i ≤ℤ h)
    → (h +ℤ pos (64 * n)) ≤ℤ size_limit → stops (chain_steps upper_over n m) ≡ true → IsNegativeSomewhere m
upper_negative zero m h t le high room e = absurd (false_is_not_true e)
upper_negative (suc n) [] h t le high room e = absurd t
upper_negative (suc n) ([] ∷ rest) h t le high room e = absurd (omega (arith, t.0))
upper_negative (suc n) ((a ∷ b) ∷ rest) h t le high room e =
    let below : (i : ℕ) → at (diagonal rest) i ≤ℤ h = λ i. high (suc i) in
    let limited : (i : ℕ) → at (diagonal rest) i ≤ℤ size_limit = λ i. let k = high (suc i) in omega (arith, ints) in
    let width : length b ≡ n = omega (arith, t.0) in
    step_cases (λ s. stops (s ∷ map step_of (chain_rows upper_over n (left_after upper_over s b rest))) ≡ true → IsNegativeSomewhere ((a ∷ b) ∷ rest)) a b
    (λ zeros e'.
    let p = upper_negative n rest h t.1 (omega arith) below (omega (arith, ints)) e' in
    (pos 0 ∷ p.0, subst (λ q. q <ℤ pos 0) (sym (quad-free a b rest (pos 0) p.0 zeros)) p.1))
    (λ some low _. head_cases a b rest some low limited)
    (λ above large _. large_beside a b rest (positive a above) limited (large_place (a *ℤ size_limit) b large))
    (λ above _ e'.
    lifted a b rest (positive a above)
    (upper_negative n (upper_over a (schur a b rest)) (h +ℤ pos n)
    (triangle-upper_over a n (schur a b rest) (triangle-schur a n b rest width t.1)) (omega arith)
    (upper_diagonal a h n b rest (positive a above) width t.1 below) (omega (arith, ints)) e'))
    e

-- a list of as many numbers as the matrix has rows
pub negative_list : (n : ℕ) (m : List (List ℤ)) → IsTriangle n m → IsNegativeSomewhere m → (x : List ℤ) × (length x ≡ n) × (quad m x <ℤ pos 0)
negative_list n m t p = (padded n p.0, length-padded n p.0, subst (λ q. q <ℤ pos 0) (sym (quad-padded n m p.0 t)) p.1)
