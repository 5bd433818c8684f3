-- A form's entry shifted by two exponents is its entry on the grid, rounded down.
use Rattle.std.proofs.Common.{◌≡◌, ℕ, zero, suc, ◌+◌, ◌*◌, ◌^◌, ◌<◌, ◌≤◌, cond, if◌then◌else◌, Bool, true, false, [], ◌∷◌, refl, sym, ◌∙◌, ap, subst, arith, lit<, mul_assoc, mul_comm as mul_comm_nat, ℤ, pos, negsuc, ◌+ℤ◌, ◌*ℤ◌, neg_ℤ, ◌≤ℤ◌, ◌<ℤ◌}
use Rattle.std.specs.Prelude.{unsigned_abs, IsTrue, ◌↔◌}
use Rattle.std.specs.Int.{int_rem_euclid}
use Rattle.std.proofs.lemmas.Int.{ints, unsigned_abs-mul}
use Rattle.std.proofs.lemmas.Nat.{pow-add, pow_pos}
use Rattle.std.proofs.Math.Nat.{lt_of_mul-lt-mul_left}
use Rattle.geo_base.specs.Division.{floor_of}
use Rattle.geo_base.specs.Grid.{shift_of, IsWholeShift}
use Rattle.geo_base.proofs.Powers.{shift_of-scaled, zero_remainder}
use Rattle.whole_algebra.specs.Rounding.{is_zero, floor_over, gap_over}
use Rattle.whole_algebra.proofs.Ring.{mul_comm}
use Rattle.whole_algebra.proofs.Order.{le_of_mul_le, le_antisym, le_of_eq}
use Rattle.whole_algebra.proofs.Normal.{ring, x0, x1, x2, ◌⊗◌}
use Rattle.limit_forms.specs.Grid.{grid_step}

-- the scales of the two unknowns are together one power
pub together : (u v : ℕ) (f : ℤ) → pos (2 ^ u) *ℤ (pos (2 ^ v) *ℤ f) ≡ f *ℤ pos (2 ^ (u + v))
together u v f =
    ring (x0 ⊗ (x1 ⊗ x2)) (x2 ⊗ (x0 ⊗ x1)) (pos (2 ^ u) ∷ pos (2 ^ v) ∷ f ∷ []) refl
    ∙ ap (λ t. f *ℤ pos t) (sym (pow-add 2 u v))

floor_same : (n d : ℤ) → floor_of n d ≡ floor_over d n
unfolding floor_of
floor_same n d = refl

-- ---- rounded down
pub shifted : (f e : ℤ) (u v : ℕ) → pos 120 ≡ e +ℤ pos (u + v) → shift_of f e ≡ floor_over grid_step (pos (2 ^ u) *ℤ (pos (2 ^ v) *ℤ f))
shifted f e u v sum =
    shift_of-scaled f e (u + v) 120 sum
    ∙ ap (λ t. floor_of t grid_step) (sym (together u v f))
    ∙ floor_same (pos (2 ^ u) *ℤ (pos (2 ^ v) *ℤ f)) grid_step

-- ---- whether it is whole
factor_off : (a b : ℤ) (c : ℕ) → 0 < c → a *ℤ pos c ≡ b *ℤ pos c → a ≡ b
factor_off a b c some e =
    let f : pos c *ℤ a ≡ pos c *ℤ b = mul_comm (pos c) a ∙ e ∙ mul_comm b (pos c) in
    let above : pos 0 <ℤ pos c = omega (arith, ints) in
    le_antisym a b (le_of_mul_le (pos c) a b above (le_of_eq (pos c *ℤ a) (pos c *ℤ b) f)) (le_of_mul_le (pos c) b a above (le_of_eq (pos c *ℤ b) (pos c *ℤ a) (sym f)))

split_power : (q : ℤ) (k m : ℕ) → k + m ≡ 120 → q *ℤ grid_step ≡ (q *ℤ pos (2 ^ k)) *ℤ pos (2 ^ m)
split_power q k m e =
    ap (λ t. q *ℤ pos t) (sym (ap (λ t. 2 ^ t) e) ∙ pow-add 2 k m)
    ∙ ring (x0 ⊗ (x1 ⊗ x2)) ((x0 ⊗ x1) ⊗ x2) (q ∷ pos (2 ^ k) ∷ pos (2 ^ m) ∷ []) refl

whole_number : (f e : ℤ) (m : ℕ) → pos 120 ≡ e +ℤ pos m → IsWholeShift f e ↔ ((q : ℤ) × (f *ℤ pos (2 ^ m) ≡ q *ℤ grid_step))
whole_number f (pos k) m sum =
    let e : k + m ≡ 120 = omega (arith, ints) in (
      λ whole. (whole.0, ap (λ t. t *ℤ pos (2 ^ m)) whole.1 ∙ sym (split_power whole.0 k m e)),
      λ multiple. (multiple.0, factor_off f (multiple.0 *ℤ pos (2 ^ k)) (2 ^ m) (pow_pos m) (multiple.1 ∙ split_power multiple.0 k m e)),
    )
whole_number f (negsuc k) m sum =
    let e : m ≡ suc k + 120 = omega (arith, ints) in
    let power : 2 ^ m ≡ 2 ^ suc k * 2 ^ 120 = ap (λ t. 2 ^ t) e ∙ pow-add 2 (suc k) 120 in (
      λ whole. (f *ℤ pos (2 ^ suc k), ap (λ t. f *ℤ pos t) power ∙ ring (x0 ⊗ (x1 ⊗ x2)) ((x0 ⊗ x1) ⊗ x2) (f ∷ pos (2 ^ suc k) ∷ grid_step ∷ []) refl),
      λ multiple. tt,
    )

gap_of_whole : (r : ℤ) → r ≡ pos 0 → cond (is_zero r) (pos 0) (pos 1) ≡ pos 0
gap_of_whole r e = ap (λ t. cond (is_zero t) (pos 0) (pos 1)) e

gap_of_part : (r : ℤ) → (r ≡ pos 0 → ⊥) → cond (is_zero r) (pos 0) (pos 1) ≡ pos 1
gap_of_part (pos zero) apart = absurd (apart refl)
gap_of_part (pos (suc n)) apart = refl
gap_of_part (negsuc n) apart = refl

pub gap_told : (f e : ℤ) (u v : ℕ) (whole : Bool) → pos 120 ≡ e +ℤ pos (u + v) → IsTrue whole ↔ IsWholeShift f e
    → gap_over grid_step (pos (2 ^ u) *ℤ (pos (2 ^ v) *ℤ f)) ≡ (if whole then pos 0 else pos 1)
gap_told f e u v whole sum tells =
    ap (λ t. gap_over grid_step t) (together u v f)
    ∙ by whole tells
  where
    tells_rest : IsWholeShift f e ↔ ((q : ℤ) × (f *ℤ pos (2 ^ (u + v)) ≡ q *ℤ grid_step))
    tells_rest = whole_number f e (u + v) sum

    remainder : (int_rem_euclid (f *ℤ pos (2 ^ (u + v))) grid_step ≡ pos 0) ↔ ((q : ℤ) × (f *ℤ pos (2 ^ (u + v)) ≡ q *ℤ grid_step))
    remainder = zero_remainder (f *ℤ pos (2 ^ (u + v))) (2 ^ 120) (lit< tt)

    by : (b : Bool) → IsTrue b ↔ IsWholeShift f e → gap_over grid_step (f *ℤ pos (2 ^ (u + v))) ≡ (if b then pos 0 else pos 1)
    by true told = gap_of_whole (int_rem_euclid (f *ℤ pos (2 ^ (u + v))) grid_step) (remainder.1 (tells_rest.0 (told.0 refl)))
    by false told = gap_of_part (int_rem_euclid (f *ℤ pos (2 ^ (u + v))) grid_step) (λ none. never (told.1 (tells_rest.1 (remainder.0 none))))
      where
        never : IsTrue false → ⊥
        never h = cc

-- ---- its size before the shift
pub shift_size : (f e : ℤ) (u v : ℕ) → pos 120 ≡ e +ℤ pos (u + v) → neg_ℤ (pos (2 ^ 229)) ≤ℤ (pos (2 ^ u) *ℤ (pos (2 ^ v) *ℤ f)) → (pos (2 ^ u) *ℤ (pos (2 ^ v) *ℤ f)) ≤ℤ pos (2 ^ 229)
    → e <ℤ pos 0 → unsigned_abs f * 2 ^ unsigned_abs e < 2 ^ 126
shift_size f (pos k) u v sum low high below = absurd (omega (arith, ints))
shift_size f (negsuc k) u v sum low high below =
    let e : u + v ≡ 120 + suc k = omega (arith, ints) in
    let power : 2 ^ (u + v) ≡ 2 ^ 120 * 2 ^ suc k = ap (λ t. 2 ^ t) e ∙ pow-add 2 120 (suc k) in
    let whole : unsigned_abs (f *ℤ pos (2 ^ (u + v))) ≤ 2 ^ 229 = within (pos (2 ^ u) *ℤ (pos (2 ^ v) *ℤ f)) (f *ℤ pos (2 ^ (u + v))) (together u v f) low high in
    let split : unsigned_abs (f *ℤ pos (2 ^ (u + v))) ≡ 2 ^ 120 * (unsigned_abs f * 2 ^ suc k) =
    unsigned_abs-mul f (pos (2 ^ (u + v))) ∙ ap (λ t. unsigned_abs f * t) power ∙ turned (unsigned_abs f) (2 ^ 120) (2 ^ suc k) in
    lt_of_mul-lt-mul_left (2 ^ 120) (subst (λ t. t < 2 ^ 120 * 2 ^ 126) split (omega arith))
  where
    within : (a b : ℤ) → a ≡ b → neg_ℤ (pos (2 ^ 229)) ≤ℤ a → a ≤ℤ pos (2 ^ 229) → unsigned_abs b ≤ 2 ^ 229
    within a b e h k = omega (arith, ints)

    turned : (a b c : ℕ) → a * (b * c) ≡ b * (a * c)
    turned a b c = sym (mul_assoc a b c) ∙ ap (λ t. t * c) (mul_comm_nat a b) ∙ mul_assoc b a c
