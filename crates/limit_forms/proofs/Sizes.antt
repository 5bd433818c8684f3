-- How large the form is on the grid.
use Rattle.std.proofs.Common.{◌≡◌, ℕ, ◌*◌, ◌^◌, ◌<◌, ◌≤◌, ◌⊎◌, inl, inr, cond, Bool, true, false, List, [], ◌∷◌, length, refl, arith, lit<, ℤ, pos, ◌+ℤ◌, ◌-ℤ◌, ◌*ℤ◌, neg_ℤ, ◌≤ℤ◌, ◌<ℤ◌, int_lt}
use Rattle.std.specs.Prelude.{unsigned_abs}
use Rattle.std.specs.Int.{int_max}
use Rattle.std.proofs.lemmas.Int.{ints}
use Rattle.std.proofs.Math.Nat.{mul-le-mul, pow-le-pow_right}
use Rattle.whole_algebra.proofs.Order.{le_trans, mul_le_mul, square_nonneg}
use Rattle.whole_algebra.proofs.Normal.{ring, x0, x1, x2, x3, lit, ◌⊕◌, ◌⊗◌, ◌⊖◌}
use Rattle.geo_base.specs.Grid.{exponent_of}
use Rattle.geo_model.specs.Limit.{SquareOf, IsLoad}
use Rattle.geo_model.specs.Network.{NetworkOf, IsNetwork}
use Rattle.normal_matrix.specs.Entries.{normal_entry}
use Rattle.limit_forms.specs.Form.{load_entry, form_of, full_entry}
use Rattle.limit_forms.specs.Grid.{exponent_at, scale_of}
use Rattle.limit_forms.proofs.Scales.{IsDiagonal, diagonal_range, diagonal_at_most, IsScale, scale_range, scaled_diagonal}
use Rattle.limit_forms.proofs.Gram.{pair_form, pair_scale, pair_within, normal_pair, load_pair}

-- the largest scaled diagonal entries: of the energy, and of the load
abbrev pub energy_limit : ℤ
energy_limit = pos (2 ^ 180)

abbrev pub load_limit : ℤ
load_limit = pos (2 ^ 228)

-- the largest scaled entries of a form: those of its energy and of its load together
abbrev pub form_limit : ℤ
form_limit = energy_limit +ℤ load_limit

-- a number of at most this size
pub record IsWithin (most z : ℤ) : Type 0 where
  pub low : neg_ℤ most ≤ℤ z
  pub high : z ≤ℤ most

-- ---- one unknown
pub record IsScaled (network : NetworkOf) (alpha : ℤ) (i : ℕ) : Type 0 where
  pub diagonal : IsDiagonal (alpha *ℤ full_entry network.candidates i i)
  pub scale : IsScale (exponent_at network.candidates alpha i) (unsigned_abs (pos 60 -ℤ exponent_at network.candidates alpha i))
  pub most : ((scale_of network.candidates alpha i *ℤ scale_of network.candidates alpha i) *ℤ (alpha *ℤ full_entry network.candidates i i)) ≤ℤ energy_limit

pub scaled_unknown : (network : NetworkOf) (alpha : ℤ) (i : ℕ) → IsNetwork network → pos 1 ≤ℤ alpha → alpha ≤ℤ pos 1000000 → IsScaled network alpha i
unfolding exponent_at
scaled_unknown network alpha i bounds low high =
    let v = alpha *ℤ full_entry network.candidates i i in
    let d = diagonal_range network alpha i bounds low high in
    let s = scale_range v d in
    record {
      diagonal = d;
      scale = s;
      most = weaker ((pos (2 ^ unsigned_abs (pos 60 -ℤ exponent_of v)) *ℤ pos (2 ^ unsigned_abs (pos 60 -ℤ exponent_of v))) *ℤ v) energy_limit (scaled_diagonal v d (unsigned_abs (pos 60 -ℤ exponent_of v)) s);
    }
  where
    weaker : (a b : ℤ) → a <ℤ b → a ≤ℤ b
    weaker a b h = omega (arith, ints)

-- of a plan
energy_most : (network : NetworkOf) (plan : List Bool) (alpha : ℤ) (i : ℕ) → IsNetwork network → pos 1 ≤ℤ alpha → alpha ≤ℤ pos 1000000
    → ((scale_of network.candidates alpha i *ℤ scale_of network.candidates alpha i) *ℤ (alpha *ℤ normal_entry network.candidates plan i i)) ≤ℤ energy_limit
energy_most network plan alpha i bounds low high =
    let s = scale_of network.candidates alpha i in
    let le = diagonal_at_most (length network.unknowns) network.candidates plan i bounds.each_candidate in
    let by_factor = mul_le_mul alpha (normal_entry network.candidates plan i i) (full_entry network.candidates i i) (omega (arith, ints)) le in
    le_trans ((s *ℤ s) *ℤ (alpha *ℤ normal_entry network.candidates plan i i)) ((s *ℤ s) *ℤ (alpha *ℤ full_entry network.candidates i i)) energy_limit
    (mul_le_mul (s *ℤ s) (alpha *ℤ normal_entry network.candidates plan i i) (alpha *ℤ full_entry network.candidates i i) (square_nonneg s) by_factor)
    (scaled_unknown network alpha i bounds low high).most

max_cases : (x y z : ℤ) → z ≤ℤ int_max x y → (z ≤ℤ x) ⊎ (z ≤ℤ y)
max_cases x y z = by (int_lt y x)
  where
    by : (b : Bool) → z ≤ℤ cond b x y → (z ≤ℤ x) ⊎ (z ≤ℤ y)
    by true h = inl h
    by false h = inr h

small_scale : (u : ℕ) → u ≤ 89 → ((pos (2 ^ u) *ℤ pos (2 ^ u)) *ℤ pos (2 ^ 50)) ≤ℤ load_limit
small_scale u le =
    let p = pow-le-pow_right {n = 2} (lit< tt) {i = u} {j = 89} le in
    let q = mul-le-mul p p in
    let r = mul-le-mul q (le_self (2 ^ 50)) in
    whole ((2 ^ u * 2 ^ u) * 2 ^ 50) ((2 ^ 89 * 2 ^ 89) * 2 ^ 50) r
  where
    le_self : (a : ℕ) → a ≤ a
    le_self a = omega arith

    whole : (a b : ℕ) → a ≤ b → pos a ≤ℤ pos b
    whole a b h = omega (arith, ints)

pub load_most : (network : NetworkOf) (alpha : ℤ) (squares : List SquareOf) (i : ℕ) → IsNetwork network → IsLoad (length network.unknowns) network.candidates alpha squares → i < length network.unknowns
    → ((scale_of network.candidates alpha i *ℤ scale_of network.candidates alpha i) *ℤ load_entry squares i i) ≤ℤ load_limit
load_most network alpha squares i bounds limit below =
    let s = scale_of network.candidates alpha i in
    let v = alpha *ℤ full_entry network.candidates i i in
    let scaled = scaled_unknown network alpha i bounds limit.alpha_low limit.alpha_high in
    elim (max_cases (pos (2 ^ 50)) (pos (2 ^ 12) *ℤ v) (load_entry squares i i) (limit.diagonal i below)) [
      | inl small ↦
          le_trans ((s *ℤ s) *ℤ load_entry squares i i) ((s *ℤ s) *ℤ pos (2 ^ 50)) load_limit
          (mul_le_mul (s *ℤ s) (load_entry squares i i) (pos (2 ^ 50)) (square_nonneg s) small)
          (small_scale (unsigned_abs (pos 60 -ℤ exponent_at network.candidates alpha i)) scaled.scale.high)
      | inr near ↦
          let first = mul_le_mul (s *ℤ s) (load_entry squares i i) (pos (2 ^ 12) *ℤ v) (square_nonneg s) near in
          let e : (s *ℤ s) *ℤ (pos (2 ^ 12) *ℤ v) ≡ pos (2 ^ 12) *ℤ ((s *ℤ s) *ℤ v) = ring ((x0 ⊗ x0) ⊗ (x1 ⊗ x2)) (x1 ⊗ ((x0 ⊗ x0) ⊗ x2)) (s ∷ pos (2 ^ 12) ∷ v ∷ []) refl in
          let second = mul_le_mul (pos (2 ^ 12)) ((s *ℤ s) *ℤ v) energy_limit (omega (arith, ints)) scaled.most in
          joined ((s *ℤ s) *ℤ load_entry squares i i) ((s *ℤ s) *ℤ (pos (2 ^ 12) *ℤ v)) (pos (2 ^ 12) *ℤ ((s *ℤ s) *ℤ v)) (pos (2 ^ 12) *ℤ energy_limit) first e second (omega (arith, ints))
    ]
  where
    joined : (a b c d : ℤ) → a ≤ℤ b → b ≡ c → c ≤ℤ d → d ≤ℤ load_limit → a ≤ℤ load_limit
    joined a b c d h e k l = omega (arith, ints)

-- ---- two unknowns
-- the form of two unknowns on the grid, times 2 ^ 120
abbrev pub grid_number : NetworkOf → List Bool → ℤ → List SquareOf → ℕ → ℕ → ℤ
grid_number network plan alpha squares i j =
    scale_of network.candidates alpha i *ℤ (scale_of network.candidates alpha j *ℤ form_of network.candidates plan alpha squares i j)

-- where the scaled load is at most some number in size, the form is at most that much larger than the energy
pub number_by : (network : NetworkOf) (plan : List Bool) (alpha : ℤ) (squares : List SquareOf) (i j : ℕ) (most : ℤ) → IsNetwork network → pos 1 ≤ℤ alpha → alpha ≤ℤ pos 1000000
    → (neg_ℤ most ≤ℤ ((scale_of network.candidates alpha i *ℤ scale_of network.candidates alpha j) *ℤ load_entry squares i j)) × (((scale_of network.candidates alpha i *ℤ scale_of network.candidates alpha j) *ℤ load_entry squares i j) ≤ℤ most)
    → IsWithin (energy_limit +ℤ most) (grid_number network plan alpha squares i j)
number_by network plan alpha squares i j most bounds low high load =
    let s = scale_of network.candidates alpha i in
    let t = scale_of network.candidates alpha j in
    let normal = normal_entry network.candidates plan in
    let energy = pair_within s t (alpha *ℤ normal i i) (alpha *ℤ normal i j) (alpha *ℤ normal j j) energy_limit
    (λ u. pair_scale alpha s u (normal i i) (normal i j) (normal j j) (nonneg alpha low) (normal_pair (length network.unknowns) network.candidates plan i j s u bounds.each_candidate))
    (energy_most network plan alpha i bounds low high) (energy_most network plan alpha j bounds low high) in
    let e : s *ℤ (t *ℤ (alpha *ℤ normal i j -ℤ load_entry squares i j)) ≡ (s *ℤ t) *ℤ (alpha *ℤ normal i j) -ℤ (s *ℤ t) *ℤ load_entry squares i j =
    ring (x0 ⊗ (x1 ⊗ (x2 ⊖ x3))) ((x0 ⊗ x1) ⊗ x2 ⊖ (x0 ⊗ x1) ⊗ x3) (s ∷ t ∷ (alpha *ℤ normal i j) ∷ load_entry squares i j ∷ []) refl in
    both (s *ℤ (t *ℤ (alpha *ℤ normal i j -ℤ load_entry squares i j))) ((s *ℤ t) *ℤ (alpha *ℤ normal i j)) ((s *ℤ t) *ℤ load_entry squares i j) e energy.0 energy.1 load.0 load.1
  where
    nonneg : (a : ℤ) → pos 1 ≤ℤ a → pos 0 ≤ℤ a
    nonneg a h = omega (arith, ints)

    both : (z p q : ℤ) → z ≡ p -ℤ q → neg_ℤ energy_limit ≤ℤ p → p ≤ℤ energy_limit → neg_ℤ most ≤ℤ q → q ≤ℤ most → IsWithin (energy_limit +ℤ most) z
    both z p q e a b c d = record { low = omega (arith, ints); high = omega (arith, ints) }

-- any limit's
pub number_within : (network : NetworkOf) (plan : List Bool) (alpha : ℤ) (squares : List SquareOf) (i j : ℕ) → IsNetwork network → IsLoad (length network.unknowns) network.candidates alpha squares
    → i < length network.unknowns → j < length network.unknowns → IsWithin form_limit (grid_number network plan alpha squares i j)
number_within network plan alpha squares i j bounds limit row column =
    let s = scale_of network.candidates alpha i in
    let t = scale_of network.candidates alpha j in
    number_by network plan alpha squares i j load_limit bounds limit.alpha_low limit.alpha_high
    (pair_within s t (load_entry squares i i) (load_entry squares i j) (load_entry squares j j) load_limit
    (λ u. load_pair squares i j s u limit.beta_low) (load_most network alpha squares i bounds limit row) (load_most network alpha squares j bounds limit column))

-- on the diagonal the form is at most the energy
pub number_on_diagonal : (network : NetworkOf) (plan : List Bool) (alpha : ℤ) (squares : List SquareOf) (i : ℕ) → IsNetwork network → IsLoad (length network.unknowns) network.candidates alpha squares
    → grid_number network plan alpha squares i i ≤ℤ energy_limit
number_on_diagonal network plan alpha squares i bounds limit =
    let s = scale_of network.candidates alpha i in
    let d = alpha *ℤ normal_entry network.candidates plan i i in
    let most = energy_most network plan alpha i bounds limit.alpha_low limit.alpha_high in
    let pair = load_pair squares i i s (pos 0) limit.beta_low in
    let f : pair_form s (pos 0) (load_entry squares i i) (load_entry squares i i) (load_entry squares i i) ≡ (s *ℤ s) *ℤ load_entry squares i i =
    ring (((x0 ⊗ x0) ⊗ x1 ⊕ lit 2 ⊗ ((x0 ⊗ lit 0) ⊗ x1)) ⊕ (lit 0 ⊗ lit 0) ⊗ x1) ((x0 ⊗ x0) ⊗ x1) (s ∷ load_entry squares i i ∷ []) refl in
    let e : s *ℤ (s *ℤ (d -ℤ load_entry squares i i)) ≡ (s *ℤ s) *ℤ d -ℤ (s *ℤ s) *ℤ load_entry squares i i = ring (x0 ⊗ (x0 ⊗ (x1 ⊖ x2))) ((x0 ⊗ x0) ⊗ x1 ⊖ (x0 ⊗ x0) ⊗ x2) (s ∷ d ∷ load_entry squares i i ∷ []) refl in
    by (s *ℤ (s *ℤ (d -ℤ load_entry squares i i))) ((s *ℤ s) *ℤ d) ((s *ℤ s) *ℤ load_entry squares i i) (pair_form s (pos 0) (load_entry squares i i) (load_entry squares i i) (load_entry squares i i)) e f most pair
  where
    by : (z p q r : ℤ) → z ≡ p -ℤ q → r ≡ q → p ≤ℤ energy_limit → pos 0 ≤ℤ r → z ≤ℤ energy_limit
    by z p q r e f a b = omega (arith, ints)
