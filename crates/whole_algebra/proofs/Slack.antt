-- The slack on the diagonal covers what the entries off it leave.
use Rattle.std.proofs.Common.{◌≡◌, List, [], ◌∷◌, map, refl, sym, ◌∙◌, ap, ap₂, arith, ℤ, pos, ◌+ℤ◌, ◌-ℤ◌, ◌*ℤ◌, neg_ℤ, ◌≤ℤ◌, ◌<ℤ◌}
use Rattle.std.proofs.lemmas.Int.{ints}
use Rattle.whole_algebra.specs.Sums.{int_sum, dot}
use Rattle.whole_algebra.specs.Rounding.{floor_over, gap_over}
use Rattle.whole_algebra.specs.Matrices.{plus_lists, quad, entries, diagonal, off_sums, plus_diagonal, slacks, lower_over, upper_over}
use Rattle.whole_algebra.proofs.Rounding.{floor_low, gap_covers}
use Rattle.whole_algebra.proofs.Order.{le_by, le_refl, add_nonneg, mul_nonneg, square_nonneg}
use Rattle.whole_algebra.proofs.SumLaws.{dot-nil}
use Rattle.whole_algebra.proofs.FormLaws.{diag_quad, diag_quad-nil, diag_quad-plus_lists, diag_quad-map_linear, quad-plus_diagonal, quad-entries_linear, quad-entries_sum, entries_same}
use Rattle.whole_algebra.proofs.Normal.{ring, x0, x1, x2, x3, x4, x5, x6, lit, opposite_of, ◌⊕◌, ◌⊖◌, ◌⊗◌}

-- each value of g is at least the size of that of f
abbrev pub Covers : (ℤ → ℤ) → (ℤ → ℤ) → Type 0
Covers g f = (z : ℤ) → (neg_ℤ (g z) ≤ℤ f z) × (f z ≤ℤ g z)

-- an entry r and its two places, covered by g: 0 ≤ 2 x r y + g (x^2 + y^2)
pair_covered : (r g x y : ℤ) → neg_ℤ g ≤ℤ r → r ≤ℤ g → pos 0 ≤ℤ (pos 2 *ℤ (x *ℤ (r *ℤ y)) +ℤ (g *ℤ (x *ℤ x) +ℤ g *ℤ (y *ℤ y)))
pair_covered r g x y low high =
    let u = g +ℤ r in
    let v = g -ℤ r in
    let p = mul_nonneg u ((x +ℤ y) *ℤ (x +ℤ y)) (omega (arith, ints)) (square_nonneg (x +ℤ y)) in
    let q = mul_nonneg v ((x -ℤ y) *ℤ (x -ℤ y)) (omega (arith, ints)) (square_nonneg (x -ℤ y)) in
    halved (pos 2 *ℤ (x *ℤ (r *ℤ y)) +ℤ (g *ℤ (x *ℤ x) +ℤ g *ℤ (y *ℤ y))) (u *ℤ ((x +ℤ y) *ℤ (x +ℤ y))) (v *ℤ ((x -ℤ y) *ℤ (x -ℤ y))) p q
    (ring (lit 2 ⊗ (lit 2 ⊗ (x2 ⊗ (x0 ⊗ x3)) ⊕ (x1 ⊗ (x2 ⊗ x2) ⊕ x1 ⊗ (x3 ⊗ x3))))
    ((x1 ⊕ x0) ⊗ ((x2 ⊕ x3) ⊗ (x2 ⊕ x3)) ⊕ (x1 ⊖ x0) ⊗ ((x2 ⊖ x3) ⊗ (x2 ⊖ x3))) (r ∷ g ∷ x ∷ y ∷ []) refl)
  where
    halved : (z p q : ℤ) → pos 0 ≤ℤ p → pos 0 ≤ℤ q → pos 2 *ℤ z ≡ p +ℤ q → pos 0 ≤ℤ z
    halved z p q hp hq e = omega (arith, ints)

cover_nonneg : (r g : ℤ) → neg_ℤ g ≤ℤ r → r ≤ℤ g → pos 0 ≤ℤ g
cover_nonneg r g low high = omega (arith, ints)

-- the row of f off the diagonal, with the slack of g at x and at each place of y
row_covered : (f g : ℤ → ℤ) → Covers g f → (b : List ℤ) (x : ℤ) (y : List ℤ)
    → pos 0 ≤ℤ (pos 2 *ℤ (x *ℤ dot (map f b) y) +ℤ (int_sum (map g b) *ℤ (x *ℤ x) +ℤ diag_quad (map g b) y))
row_covered f g h [] x y =
    le_by (pos 0) (pos 2 *ℤ (x *ℤ pos 0) +ℤ (pos 0 *ℤ (x *ℤ x) +ℤ pos 0)) (pos 0) (le_refl (pos 0))
    (ring (lit 2 ⊗ (x0 ⊗ lit 0) ⊕ (lit 0 ⊗ (x0 ⊗ x0) ⊕ lit 0)) (lit 0 ⊕ lit 0) (x ∷ []) refl)
row_covered f g h (c ∷ b) x [] =
    let one = mul_nonneg (g c) (x *ℤ x) (cover_nonneg (f c) (g c) (h c).0 (h c).1) (square_nonneg x) in
    let more = row_covered f g h b x [] in
    le_by (pos 0) (pos 2 *ℤ (x *ℤ pos 0) +ℤ ((g c +ℤ int_sum (map g b)) *ℤ (x *ℤ x) +ℤ pos 0))
    (g c *ℤ (x *ℤ x) +ℤ (pos 2 *ℤ (x *ℤ dot (map f b) []) +ℤ (int_sum (map g b) *ℤ (x *ℤ x) +ℤ diag_quad (map g b) [])))
    (add_nonneg (g c *ℤ (x *ℤ x)) (pos 2 *ℤ (x *ℤ dot (map f b) []) +ℤ (int_sum (map g b) *ℤ (x *ℤ x) +ℤ diag_quad (map g b) [])) one more)
    (ring (lit 2 ⊗ (x0 ⊗ lit 0) ⊕ ((x1 ⊕ x2) ⊗ (x0 ⊗ x0) ⊕ lit 0)) (lit 0 ⊕ (x1 ⊗ (x0 ⊗ x0) ⊕ (lit 2 ⊗ (x0 ⊗ lit 0) ⊕ (x2 ⊗ (x0 ⊗ x0) ⊕ lit 0))))
    (x ∷ g c ∷ int_sum (map g b) ∷ []) refl
    ∙ ap₂ (λ s t. pos 0 +ℤ (g c *ℤ (x *ℤ x) +ℤ (pos 2 *ℤ (x *ℤ s) +ℤ (int_sum (map g b) *ℤ (x *ℤ x) +ℤ t)))) (sym (dot-nil (map f b))) (sym (diag_quad-nil (map g b))))
row_covered f g h (c ∷ b) x (y ∷ ys) =
    let one = pair_covered (f c) (g c) x y (h c).0 (h c).1 in
    let more = row_covered f g h b x ys in
    let d = pos 2 *ℤ (x *ℤ (f c *ℤ y)) +ℤ (g c *ℤ (x *ℤ x) +ℤ g c *ℤ (y *ℤ y)) in
    let e = pos 2 *ℤ (x *ℤ dot (map f b) ys) +ℤ (int_sum (map g b) *ℤ (x *ℤ x) +ℤ diag_quad (map g b) ys) in
    le_by (pos 0) (pos 2 *ℤ (x *ℤ (f c *ℤ y +ℤ dot (map f b) ys)) +ℤ ((g c +ℤ int_sum (map g b)) *ℤ (x *ℤ x) +ℤ (g c *ℤ (y *ℤ y) +ℤ diag_quad (map g b) ys)))
    (d +ℤ e) (add_nonneg d e one more)
    (ring (lit 2 ⊗ (x0 ⊗ (x2 ⊗ x1 ⊕ x4)) ⊕ ((x3 ⊕ x5) ⊗ (x0 ⊗ x0) ⊕ (x3 ⊗ (x1 ⊗ x1) ⊕ x6)))
    (lit 0 ⊕ ((lit 2 ⊗ (x0 ⊗ (x2 ⊗ x1)) ⊕ (x3 ⊗ (x0 ⊗ x0) ⊕ x3 ⊗ (x1 ⊗ x1))) ⊕ (lit 2 ⊗ (x0 ⊗ x4) ⊕ (x5 ⊗ (x0 ⊗ x0) ⊕ x6))))
    (x ∷ y ∷ f c ∷ g c ∷ dot (map f b) ys ∷ int_sum (map g b) ∷ diag_quad (map g b) ys ∷ []) refl)

-- a form, with the sums of g off the diagonal, is at least its diagonal
pub form_covered : (f g : ℤ → ℤ) → Covers g f → (m : List (List ℤ)) (x : List ℤ)
    → diag_quad (diagonal (entries f m)) x ≤ℤ (quad (entries f m) x +ℤ diag_quad (off_sums (entries g m)) x)
form_covered f g h [] x = le_refl (pos 0)
form_covered f g h ([] ∷ rest) [] = le_refl (pos 0)
form_covered f g h ([] ∷ rest) (x ∷ y) =
    let more = form_covered f g h rest y in
    omega (arith, ints)
form_covered f g h ((a ∷ b) ∷ rest) [] = le_refl (pos 0)
form_covered f g h ((a ∷ b) ∷ rest) (x ∷ y) =
    let row = row_covered f g h b x y in
    let more = form_covered f g h rest y in
    let split = diag_quad-plus_lists (map g b) (off_sums (entries g rest)) y in
    joined (f a *ℤ (x *ℤ x)) (pos 2 *ℤ (x *ℤ dot (map f b) y)) (int_sum (map g b) *ℤ (x *ℤ x)) (diag_quad (map g b) y)
    (diag_quad (diagonal (entries f rest)) y) (quad (entries f rest) y) (diag_quad (off_sums (entries g rest)) y)
    (diag_quad (plus_lists (map g b) (off_sums (entries g rest))) y) row more split
  where
    joined : (p t s d e q o po : ℤ) → pos 0 ≤ℤ (t +ℤ (s +ℤ d)) → e ≤ℤ (q +ℤ o) → po ≡ d +ℤ o → (p +ℤ e) ≤ℤ (((p +ℤ t) +ℤ q) +ℤ (s +ℤ po))
    joined p t s d e q o po h k l = omega (arith, ints)

-- ---- numbers that aren't negative on the diagonal
pub diag_quad-map_nonneg : (f : ℤ → ℤ) → ((z : ℤ) → pos 0 ≤ℤ f z) → (m : List (List ℤ)) (x : List ℤ)
    → pos 0 ≤ℤ diag_quad (diagonal (entries f m)) x
diag_quad-map_nonneg f h [] x = le_refl (pos 0)
diag_quad-map_nonneg f h ([] ∷ rest) [] = le_refl (pos 0)
diag_quad-map_nonneg f h ([] ∷ rest) (x ∷ y) =
    let more = diag_quad-map_nonneg f h rest y in
    omega (arith, ints)
diag_quad-map_nonneg f h ((a ∷ b) ∷ rest) [] = le_refl (pos 0)
diag_quad-map_nonneg f h ((a ∷ b) ∷ rest) (x ∷ y) =
    add_nonneg (f a *ℤ (x *ℤ x)) (diag_quad (diagonal (entries f rest)) y) (mul_nonneg (f a) (x *ℤ x) (h a) (square_nonneg x)) (diag_quad-map_nonneg f h rest y)

-- ---- factors come out of the sums
int_sum-map_linear : (a : ℤ) (g h : ℤ → ℤ) → ((z : ℤ) → h z ≡ a *ℤ g z) → (b : List ℤ) → int_sum (map h b) ≡ a *ℤ int_sum (map g b)
int_sum-map_linear a g h e [] = ring (lit 0) (x0 ⊗ lit 0) (a ∷ []) refl
int_sum-map_linear a g h e (c ∷ b) =
    ap₂ (λ s t. s +ℤ t) (e c) (int_sum-map_linear a g h e b)
    ∙ ring (x0 ⊗ x1 ⊕ x0 ⊗ x2) (x0 ⊗ (x1 ⊕ x2)) (a ∷ g c ∷ int_sum (map g b) ∷ []) refl

diag_quad-map_from : (a : ℤ) (g h : ℤ → ℤ) → ((z : ℤ) → h z ≡ a *ℤ g z) → (b x : List ℤ) → diag_quad (map h b) x ≡ a *ℤ diag_quad (map g b) x
diag_quad-map_from a g h e [] x = ring (lit 0) (x0 ⊗ lit 0) (a ∷ []) refl
diag_quad-map_from a g h e (c ∷ b) [] = ring (lit 0) (x0 ⊗ lit 0) (a ∷ []) refl
diag_quad-map_from a g h e (c ∷ b) (x ∷ y) =
    ap₂ (λ s t. s *ℤ (x *ℤ x) +ℤ t) (e c) (diag_quad-map_from a g h e b y)
    ∙ ring ((x0 ⊗ x1) ⊗ (x2 ⊗ x2) ⊕ x0 ⊗ x3) (x0 ⊗ (x1 ⊗ (x2 ⊗ x2) ⊕ x3)) (a ∷ g c ∷ x ∷ diag_quad (map g b) y ∷ []) refl

pub diag_quad-off_sums : (a : ℤ) (g h : ℤ → ℤ) → ((z : ℤ) → h z ≡ a *ℤ g z) → (m : List (List ℤ)) (x : List ℤ)
    → diag_quad (off_sums (entries h m)) x ≡ a *ℤ diag_quad (off_sums (entries g m)) x
diag_quad-off_sums a g h e [] x = ring (lit 0) (x0 ⊗ lit 0) (a ∷ []) refl
diag_quad-off_sums a g h e ([] ∷ rest) [] = ring (lit 0) (x0 ⊗ lit 0) (a ∷ []) refl
diag_quad-off_sums a g h e ([] ∷ rest) (x ∷ y) =
    ap (λ t. pos 0 *ℤ (x *ℤ x) +ℤ t) (diag_quad-off_sums a g h e rest y)
    ∙ ring (lit 0 ⊗ (x1 ⊗ x1) ⊕ x0 ⊗ x2) (x0 ⊗ (lit 0 ⊗ (x1 ⊗ x1) ⊕ x2)) (a ∷ x ∷ diag_quad (off_sums (entries g rest)) y ∷ []) refl
diag_quad-off_sums a g h e ((p ∷ b) ∷ rest) [] = ring (lit 0) (x0 ⊗ lit 0) (a ∷ []) refl
diag_quad-off_sums a g h e ((p ∷ b) ∷ rest) (x ∷ y) =
    ap₂ (λ s t. s *ℤ (x *ℤ x) +ℤ t) (int_sum-map_linear a g h e b)
    (diag_quad-plus_lists (map h b) (off_sums (entries h rest)) y
    ∙ ap₂ (λ s t. s +ℤ t) (diag_quad-map_from a g h e b y) (diag_quad-off_sums a g h e rest y))
    ∙ ring ((x0 ⊗ x1) ⊗ (x2 ⊗ x2) ⊕ (x0 ⊗ x3 ⊕ x0 ⊗ x4)) (x0 ⊗ (x1 ⊗ (x2 ⊗ x2) ⊕ (x3 ⊕ x4)))
    (a ∷ int_sum (map g b) ∷ x ∷ diag_quad (map g b) y ∷ diag_quad (off_sums (entries g rest)) y ∷ []) refl
    ∙ ap (λ t. a *ℤ (int_sum (map g b) *ℤ (x *ℤ x) +ℤ t)) (sym (diag_quad-plus_lists (map g b) (off_sums (entries g rest)) y))

diag_quad-diagonal_sum : (a : ℤ) (f g h : ℤ → ℤ) → ((z : ℤ) → h z ≡ f z +ℤ a *ℤ g z) → (m : List (List ℤ)) (x : List ℤ)
    → diag_quad (diagonal (entries h m)) x ≡ diag_quad (diagonal (entries f m)) x +ℤ a *ℤ diag_quad (diagonal (entries g m)) x
diag_quad-diagonal_sum a f g h e [] x = ring (lit 0) (lit 0 ⊕ x0 ⊗ lit 0) (a ∷ []) refl
diag_quad-diagonal_sum a f g h e ([] ∷ rest) [] = ring (lit 0) (lit 0 ⊕ x0 ⊗ lit 0) (a ∷ []) refl
diag_quad-diagonal_sum a f g h e ([] ∷ rest) (x ∷ y) =
    ap (λ t. pos 0 *ℤ (x *ℤ x) +ℤ t) (diag_quad-diagonal_sum a f g h e rest y)
    ∙ ring (lit 0 ⊗ (x1 ⊗ x1) ⊕ (x2 ⊕ x0 ⊗ x3)) ((lit 0 ⊗ (x1 ⊗ x1) ⊕ x2) ⊕ x0 ⊗ (lit 0 ⊗ (x1 ⊗ x1) ⊕ x3))
    (a ∷ x ∷ diag_quad (diagonal (entries f rest)) y ∷ diag_quad (diagonal (entries g rest)) y ∷ []) refl
diag_quad-diagonal_sum a f g h e ((p ∷ b) ∷ rest) [] = ring (lit 0) (lit 0 ⊕ x0 ⊗ lit 0) (a ∷ []) refl
diag_quad-diagonal_sum a f g h e ((p ∷ b) ∷ rest) (x ∷ y) =
    ap₂ (λ s t. s *ℤ (x *ℤ x) +ℤ t) (e p) (diag_quad-diagonal_sum a f g h e rest y)
    ∙ ring ((x1 ⊕ x0 ⊗ x2) ⊗ (x3 ⊗ x3) ⊕ (x4 ⊕ x0 ⊗ x5)) ((x1 ⊗ (x3 ⊗ x3) ⊕ x4) ⊕ x0 ⊗ (x2 ⊗ (x3 ⊗ x3) ⊕ x5))
    (a ∷ f p ∷ g p ∷ x ∷ diag_quad (diagonal (entries f rest)) y ∷ diag_quad (diagonal (entries g rest)) y ∷ []) refl

-- ---- the divided matrix
abbrev pub left_over : ℤ → ℤ → ℤ
left_over a z = z -ℤ a *ℤ floor_over a z

abbrev pub short_of : ℤ → ℤ → ℤ
short_of a z = neg_ℤ z +ℤ a *ℤ floor_over a z

pub left_over_covered : (a : ℤ) → pos 0 <ℤ a → Covers (λ z. a *ℤ gap_over a z) (left_over a)
left_over_covered a h z =
    let low = floor_low a z h in
    let high = gap_covers a z h in
    (omega (arith, ints), omega (arith, ints))

pub short_of_covered : (a : ℤ) → pos 0 <ℤ a → Covers (λ z. a *ℤ gap_over a z) (short_of a)
short_of_covered a h z =
    let low = floor_low a z h in
    let high = gap_covers a z h in
    (omega (arith, ints), omega (arith, ints))

pub left_over_nonneg : (a : ℤ) → pos 0 <ℤ a → (z : ℤ) → pos 0 ≤ℤ left_over a z
left_over_nonneg a h z =
    let low = floor_low a z h in
    omega (arith, ints)

filled_nonneg : (a : ℤ) → pos 0 <ℤ a → (z : ℤ) → pos 0 ≤ℤ (short_of a z +ℤ a *ℤ gap_over a z)
filled_nonneg a h z =
    let high = gap_covers a z h in
    omega (arith, ints)

lower_by : (a q f s d low : ℤ) → low ≡ f +ℤ neg_ℤ (pos 1) *ℤ s → pos 0 ≤ℤ d → d ≤ℤ ((q -ℤ a *ℤ f) +ℤ a *ℤ s) → (a *ℤ low) ≤ℤ q
lower_by a q f s d low e h k =
    let p : a *ℤ low ≡ a *ℤ f -ℤ a *ℤ s = ap (λ t. a *ℤ t) e ∙ ring (x0 ⊗ (x1 ⊕ opposite_of (lit 1) ⊗ x2)) (x0 ⊗ x1 ⊖ x0 ⊗ x2) (a ∷ f ∷ s ∷ []) refl in
    omega (arith, ints)

pub lower_is_below : (a : ℤ) (m : List (List ℤ)) (x : List ℤ) → pos 0 <ℤ a → (a *ℤ quad (lower_over a m) x) ≤ℤ quad m x
lower_is_below a m x h =
    let f = left_over a in
    let g = λ (z : ℤ). a *ℤ gap_over a z in
    let split : quad m x ≡ quad (entries f m) x +ℤ a *ℤ quad (entries (floor_over a) m) x =
    ap (λ n. quad n x) (sym (entries_same (λ z. z) (λ z. refl) m))
    ∙ quad-entries_sum a (λ z. z) f (floor_over a) (λ z. ring x0 ((x0 ⊖ x1 ⊗ x2) ⊕ x1 ⊗ x2) (z ∷ a ∷ floor_over a z ∷ []) refl) m x in
    let low : quad (lower_over a m) x ≡ quad (entries (floor_over a) m) x +ℤ neg_ℤ (pos 1) *ℤ diag_quad (slacks a m) x =
    quad-plus_diagonal (entries (floor_over a) m) (map neg_ℤ (slacks a m)) x
    ∙ ap (λ t. quad (entries (floor_over a) m) x +ℤ t)
    (diag_quad-map_linear (neg_ℤ (pos 1)) neg_ℤ (λ z. ring (opposite_of x0) (opposite_of (lit 1) ⊗ x0) (z ∷ []) refl) (slacks a m) x) in
    let cover = form_covered f g (left_over_covered a h) m x in
    let sums = diag_quad-off_sums a (gap_over a) g (λ z. refl) m x in
    let left : quad (entries f m) x ≡ quad m x -ℤ a *ℤ quad (entries (floor_over a) m) x = omega (arith, ints) in
    lower_by a (quad m x) (quad (entries (floor_over a) m) x) (diag_quad (slacks a m) x) (diag_quad (diagonal (entries f m)) x) (quad (lower_over a m) x)
    low (diag_quad-map_nonneg f (left_over_nonneg a h) m x) (omega (arith, ints))

upper_by : (a q f g s d high : ℤ) → high ≡ (f +ℤ g) +ℤ s → pos 0 ≤ℤ (d +ℤ a *ℤ g) → d ≤ℤ ((neg_ℤ (pos 1) *ℤ q +ℤ a *ℤ f) +ℤ a *ℤ s) → q ≤ℤ (a *ℤ high)
upper_by a q f g s d high e h k =
    let p : a *ℤ high ≡ a *ℤ f +ℤ a *ℤ g +ℤ a *ℤ s = ap (λ t. a *ℤ t) e ∙ ring (x0 ⊗ ((x1 ⊕ x2) ⊕ x3)) (x0 ⊗ x1 ⊕ x0 ⊗ x2 ⊕ x0 ⊗ x3) (a ∷ f ∷ g ∷ s ∷ []) refl in
    omega (arith, ints)

pub upper_is_above : (a : ℤ) (m : List (List ℤ)) (x : List ℤ) → pos 0 <ℤ a → quad m x ≤ℤ (a *ℤ quad (upper_over a m) x)
upper_is_above a m x h =
    let f = short_of a in
    let g = λ (z : ℤ). a *ℤ gap_over a z in
    let split : quad (entries f m) x ≡ neg_ℤ (pos 1) *ℤ quad m x +ℤ a *ℤ quad (entries (floor_over a) m) x =
    quad-entries_sum a f neg_ℤ (floor_over a) (λ z. refl) m x
    ∙ ap (λ t. t +ℤ a *ℤ quad (entries (floor_over a) m) x)
    (quad-entries_linear (neg_ℤ (pos 1)) neg_ℤ (λ z. ring (opposite_of x0) (opposite_of (lit 1) ⊗ x0) (z ∷ []) refl) m x) in
    let high : quad (upper_over a m) x ≡ (quad (entries (floor_over a) m) x +ℤ diag_quad (diagonal (entries (gap_over a) m)) x) +ℤ diag_quad (slacks a m) x =
    quad-plus_diagonal (plus_diagonal (entries (floor_over a) m) (diagonal (entries (gap_over a) m))) (slacks a m) x
    ∙ ap (λ t. t +ℤ diag_quad (slacks a m) x) (quad-plus_diagonal (entries (floor_over a) m) (diagonal (entries (gap_over a) m)) x) in
    let cover = form_covered f g (short_of_covered a h) m x in
    let sums = diag_quad-off_sums a (gap_over a) g (λ z. refl) m x in
    let filled = diag_quad-map_nonneg (λ z. short_of a z +ℤ a *ℤ gap_over a z) (filled_nonneg a h) m x in
    let parts = diag_quad-diagonal_sum a f (gap_over a) (λ z. short_of a z +ℤ a *ℤ gap_over a z) (λ z. refl) m x in
    upper_by a (quad m x) (quad (entries (floor_over a) m) x) (diag_quad (diagonal (entries (gap_over a) m)) x) (diag_quad (slacks a m) x)
    (diag_quad (diagonal (entries f m)) x) (quad (upper_over a m) x) high (omega (arith, ints)) (omega (arith, ints))
