-- Squares of sums and of forms, and a line's room.
use Rattle.std.proofs.Common.{ℕ, ◌≤◌, [], ◌∷◌, refl, arith, ℤ, pos, ◌+ℤ◌, ◌-ℤ◌, ◌*ℤ◌, ◌≤ℤ◌}
use Rattle.std.specs.Prelude.{unsigned_abs}
use Rattle.std.proofs.lemmas.Int.{ints}
use Rattle.whole_algebra.proofs.Order.{le_by, mul_nonneg, square_nonneg, size-mul}
use Rattle.whole_algebra.proofs.Ring.{mul_assoc}
use Rattle.whole_algebra.proofs.Normal.{ring, x0, x1, x2, x3, x4, lit, ◌⊕◌, ◌⊖◌, ◌⊗◌}

-- a side q of m and more: twice m times the other side is at most the square of the line
pub line_room : (p q m : ℤ) → pos 0 ≤ℤ p → m ≤ℤ q → (pos 2 *ℤ (m *ℤ p)) ≤ℤ (p *ℤ p +ℤ q *ℤ q)
line_room p q m some more =
    let room : pos 0 ≤ℤ (p *ℤ (q -ℤ m)) = mul_nonneg p (q -ℤ m) some (omega (arith, ints)) in
    let beside = square_nonneg (p -ℤ q) in
    le_by (pos 2 *ℤ (m *ℤ p)) (p *ℤ p +ℤ q *ℤ q) ((p -ℤ q) *ℤ (p -ℤ q) +ℤ pos 2 *ℤ (p *ℤ (q -ℤ m))) (omega (arith, ints))
    (ring (x0 ⊗ x0 ⊕ x1 ⊗ x1) (lit 2 ⊗ (x2 ⊗ x0) ⊕ ((x0 ⊖ x1) ⊗ (x0 ⊖ x1) ⊕ lit 2 ⊗ (x0 ⊗ (x1 ⊖ x2)))) (p ∷ q ∷ m ∷ []) refl)

pub square_of_sum : (p q : ℤ) → ((p +ℤ q) *ℤ (p +ℤ q)) ≤ℤ (pos 2 *ℤ (p *ℤ p +ℤ q *ℤ q))
square_of_sum p q =
    le_by ((p +ℤ q) *ℤ (p +ℤ q)) (pos 2 *ℤ (p *ℤ p +ℤ q *ℤ q)) ((p -ℤ q) *ℤ (p -ℤ q)) (square_nonneg (p -ℤ q))
    (ring (lit 2 ⊗ (x0 ⊗ x0 ⊕ x1 ⊗ x1)) ((x0 ⊕ x1) ⊗ (x0 ⊕ x1) ⊕ (x0 ⊖ x1) ⊗ (x0 ⊖ x1)) (p ∷ q ∷ []) refl)

-- the square of a number that is at most `size` in size
square_within : (size : ℕ) (a : ℤ) → unsigned_abs a ≤ size → (a *ℤ a) ≤ℤ (pos size *ℤ pos size)
square_within size a small = omega (arith, ints, size-mul a a size size small small)

-- a form of two variables whose coefficients have squares of at most b
form_within : (a c u v b : ℤ) → (a *ℤ a) ≤ℤ b → (c *ℤ c) ≤ℤ b → ((a *ℤ u +ℤ c *ℤ v) *ℤ (a *ℤ u +ℤ c *ℤ v)) ≤ℤ (pos 2 *ℤ b *ℤ (u *ℤ u +ℤ v *ℤ v))
form_within a c u v b small_a small_c =
    let room_u : pos 0 ≤ℤ ((b -ℤ a *ℤ a) *ℤ (u *ℤ u)) = mul_nonneg (b -ℤ a *ℤ a) (u *ℤ u) (omega (arith, ints)) (square_nonneg u) in
    let room_v : pos 0 ≤ℤ ((b -ℤ c *ℤ c) *ℤ (v *ℤ v)) = mul_nonneg (b -ℤ c *ℤ c) (v *ℤ v) (omega (arith, ints)) (square_nonneg v) in
    let beside = square_nonneg (a *ℤ u -ℤ c *ℤ v) in
    le_by ((a *ℤ u +ℤ c *ℤ v) *ℤ (a *ℤ u +ℤ c *ℤ v)) (pos 2 *ℤ b *ℤ (u *ℤ u +ℤ v *ℤ v))
    ((a *ℤ u -ℤ c *ℤ v) *ℤ (a *ℤ u -ℤ c *ℤ v) +ℤ (pos 2 *ℤ ((b -ℤ a *ℤ a) *ℤ (u *ℤ u)) +ℤ pos 2 *ℤ ((b -ℤ c *ℤ c) *ℤ (v *ℤ v))))
    (omega (arith, ints))
    (ring (lit 2 ⊗ x4 ⊗ (x2 ⊗ x2 ⊕ x3 ⊗ x3))
    ((x0 ⊗ x2 ⊕ x1 ⊗ x3) ⊗ (x0 ⊗ x2 ⊕ x1 ⊗ x3)
    ⊕ ((x0 ⊗ x2 ⊖ x1 ⊗ x3) ⊗ (x0 ⊗ x2 ⊖ x1 ⊗ x3)
    ⊕ (lit 2 ⊗ ((x4 ⊖ x0 ⊗ x0) ⊗ (x2 ⊗ x2)) ⊕ lit 2 ⊗ ((x4 ⊖ x1 ⊗ x1) ⊗ (x3 ⊗ x3)))))
    (a ∷ c ∷ u ∷ v ∷ b ∷ []) refl)

pub two_terms : (size : ℕ) (a b u v : ℤ) → unsigned_abs a ≤ size → unsigned_abs b ≤ size
    → ((a *ℤ u +ℤ b *ℤ v) *ℤ (a *ℤ u +ℤ b *ℤ v)) ≤ℤ (pos 2 *ℤ (pos size *ℤ pos size) *ℤ (u *ℤ u +ℤ v *ℤ v))
two_terms size a b u v small_a small_b = form_within a b u v (pos size *ℤ pos size) (square_within size a small_a) (square_within size b small_b)

-- the energy of a row that the rest bears fourfold
pub rest_bears : (weight square rest whole : ℤ) → (weight *ℤ square +ℤ rest) ≤ℤ whole → (weight *ℤ square) ≤ℤ (pos 4 *ℤ rest)
    → (pos 1000 *ℤ weight *ℤ square) ≤ℤ (pos 800 *ℤ whole)
rest_bears weight square rest whole within borne = omega (arith, ints, mul_assoc (pos 1000) weight square)
