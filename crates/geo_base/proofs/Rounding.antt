-- The words of `specs/Division.antt` meet the inequalities that define them, and are the only numbers that do.
use Rattle.std.proofs.Common.{◌≡◌, ℕ, suc, ◌+◌, ◌*◌, ◌/◌, ◌<◌, ◌≤◌, arith, ap, sym, ◌∙◌, refl, subst, inl, inr, ◌⊎◌}
use Rattle.std.specs.Prelude.{ℤ, pos, negsuc, neg_ℤ, ◌+ℤ◌, ◌-ℤ◌, ◌*ℤ◌, ◌≤ℤ◌, ◌<ℤ◌, unsigned_abs}
use Rattle.std.proofs.lemmas.Int.{ints, by_lt_z}
use Rattle.std.proofs.Math.Nat.{div-mul-le_self, lt-div-mul-add, div-le_self, mul-le-mul_right}
use borrow.Author.Differences.{up, down, neg_is, sum_is_lem}
use Rattle.geo_base.specs.Division.{IsFloor, IsCeiling, IsNearest, distance, floor_of, ceil_of, nearest_of}

-- a product with a number that is not negative keeps the order
pub mul_keeps_order : (a b d : ℤ) → pos 0 ≤ℤ d → a ≤ℤ b → (a *ℤ d) ≤ℤ (b *ℤ d)
mul_keeps_order a b (pos k) h le =
    let plain : up a + down b ≤ up b + down a = omega (arith, ints) in
    let times : (up a + down b) * k ≤ (up b + down a) * k = mul-le-mul_right k plain in
    omega (arith, ints)
mul_keeps_order a b (negsuc k) h le = absurd (omega (arith, ints))

-- of two products with a positive number the lesser has the lesser factor
pub mul_order_back : (a b d : ℤ) → pos 0 <ℤ d → (a *ℤ d) <ℤ (b *ℤ d) → a <ℤ b
mul_order_back a b d h lt =
    by_lt_z a b (λ less. less) (λ le. let keeps : (b *ℤ d) ≤ℤ (a *ℤ d) = mul_keeps_order b a d (omega (arith, ints)) le in absurd (omega (arith, ints)))

-- the sign of a factor is the sign of the product
pub neg-*ℤ : (a b : ℤ) → neg_ℤ a *ℤ b ≡ neg_ℤ (a *ℤ b)
neg-*ℤ a b =
    let one : up (neg_ℤ a) * up b ≡ down a * up b = ap (λ t. t * up b) (neg_is a).0 in
    let two : up (neg_ℤ a) * down b ≡ down a * down b = ap (λ t. t * down b) (neg_is a).0 in
    let three : down (neg_ℤ a) * up b ≡ up a * up b = ap (λ t. t * up b) (neg_is a).1 in
    let four : down (neg_ℤ a) * down b ≡ up a * down b = ap (λ t. t * down b) (neg_is a).1 in
    omega (arith, ints)

pub floor_of-IsFloor : (n d : ℤ) → pos 0 <ℤ d → IsFloor n d (floor_of n d)
unfolding floor_of
floor_of-IsFloor n (negsuc b) h = absurd (omega (arith, ints))
floor_of-IsFloor (pos a) (pos b) h =
    let some : 0 < b = omega (arith, ints) in
    record {
      reached = omega (arith, ints, div-mul-le_self a b);
      next_above = omega (arith, ints, lt-div-mul-add {a = a} some);
    }
floor_of-IsFloor (negsuc a) (pos b) h =
    let some : 0 < b = omega (arith, ints) in
    record {
      reached = omega (arith, ints, lt-div-mul-add {a = a} some);
      next_above =
          let next : negsuc (a / b) +ℤ pos 1 ≡ neg_ℤ (pos (a / b)) = omega (arith, ints) in
          let P : ℤ → Type 0 = λ t. negsuc a <ℤ (t *ℤ pos b) in
          let value : neg_ℤ (pos (a / b)) *ℤ pos b ≡ neg_ℤ (pos (a / b * b)) = neg-*ℤ (pos (a / b)) (pos b) in
          subst P (sym next) (omega (arith, ints, div-mul-le_self a b));
    }

pub floor_of-size : (n d : ℤ) → pos 0 <ℤ d → unsigned_abs (floor_of n d) ≤ unsigned_abs n
unfolding floor_of
floor_of-size n (negsuc b) h = absurd (omega (arith, ints))
floor_of-size (pos a) (pos b) h = omega (arith, div-le_self a b)
floor_of-size (negsuc a) (pos b) h = omega (arith, div-le_self a b)

-- only one number is a floor
pub IsFloor-unique : (n d p q : ℤ) → pos 0 <ℤ d → IsFloor n d p → IsFloor n d q → p ≡ q
IsFloor-unique n d p q h one other =
    let first : p <ℤ (q +ℤ pos 1) = mul_order_back p (q +ℤ pos 1) d h (omega (arith, ints, one.reached, other.next_above)) in
    let second : q <ℤ (p +ℤ pos 1) = mul_order_back q (p +ℤ pos 1) d h (omega (arith, ints, other.reached, one.next_above)) in
    omega (arith, ints)

-- a ceiling is a floor of the negated number, negated
pub IsCeiling-from_floor : (n d q : ℤ) → IsFloor (neg_ℤ n) d q → IsCeiling n d (neg_ℤ q)
IsCeiling-from_floor n d q f =
    let next : neg_ℤ q -ℤ pos 1 ≡ neg_ℤ (q +ℤ pos 1) = omega (arith, ints) in
    let turned : (neg_ℤ q -ℤ pos 1) *ℤ d ≡ neg_ℤ ((q +ℤ pos 1) *ℤ d) = ap (λ t. t *ℤ d) next ∙ neg-*ℤ (q +ℤ pos 1) d in
    record { reached = omega (arith, ints, f.reached, neg-*ℤ q d); last_below = omega (arith, ints, f.next_above, turned) }

pub ceil_of-IsCeiling : (n d : ℤ) → pos 0 <ℤ d → IsCeiling n d (ceil_of n d)
unfolding ceil_of
ceil_of-IsCeiling n d h = IsCeiling-from_floor n d (floor_of (neg_ℤ n) d) (floor_of-IsFloor (neg_ℤ n) d h)

-- only one number is a ceiling
pub IsCeiling-unique : (n d p q : ℤ) → pos 0 <ℤ d → IsCeiling n d p → IsCeiling n d q → p ≡ q
IsCeiling-unique n d p q h one other =
    let first : (p -ℤ pos 1) <ℤ q = mul_order_back (p -ℤ pos 1) q d h (omega (arith, ints, one.last_below, other.reached)) in
    let second : (q -ℤ pos 1) <ℤ p = mul_order_back (q -ℤ pos 1) p d h (omega (arith, ints, other.last_below, one.reached)) in
    omega (arith, ints)

-- a factor goes into a sum
pub add-*ℤ : (a b c : ℤ) → (a +ℤ b) *ℤ c ≡ a *ℤ c +ℤ b *ℤ c
add-*ℤ a b c =
    let one : (up (a +ℤ b) + down a + down b) * up c ≡ (down (a +ℤ b) + up a + up b) * up c = ap (λ t. t * up c) (sum_is_lem a b) in
    let two : (up (a +ℤ b) + down a + down b) * down c ≡ (down (a +ℤ b) + up a + up b) * down c = ap (λ t. t * down c) (sum_is_lem a b) in
    omega (arith, ints)

-- twice n / d lies within 1 of 2 q, and reaches it from above alone
record IsHalfUp (n d m : ℤ) : Type 0 where
  low : (pos 2 *ℤ m) ≤ℤ (pos 2 *ℤ n +ℤ d)
  high : (pos 2 *ℤ n) <ℤ (pos 2 *ℤ m +ℤ d)

half_up_from_floor : (n d q : ℤ) → pos 0 <ℤ d → IsFloor (pos 2 *ℤ n +ℤ d) (pos 2 *ℤ d) q → IsHalfUp n d (q *ℤ d)
half_up_from_floor n (negsuc k) q some f = absurd (omega (arith, ints))
half_up_from_floor n (pos k) q some f =
    let more : (q +ℤ pos 1) *ℤ (pos 2 *ℤ pos k) ≡ q *ℤ pos (2 * k) +ℤ pos 1 *ℤ pos (2 * k) = add-*ℤ q (pos 1) (pos (2 * k)) in
    record { low = omega (arith, ints, f.reached); high = omega (arith, ints, f.next_above, more) }

-- a number z other than q is at least one step of d away
apart_below : (d q z : ℤ) → pos 0 <ℤ d → z <ℤ q → (z *ℤ d +ℤ d) ≤ℤ (q *ℤ d)
apart_below d q z some less =
    let order : ((z +ℤ pos 1) *ℤ d) ≤ℤ (q *ℤ d) = mul_keeps_order (z +ℤ pos 1) q d (omega (arith, ints)) (omega (arith, ints)) in
    let one : pos 1 *ℤ d ≡ d = omega (arith, ints) in
    omega (arith, ints, add-*ℤ z (pos 1) d)

-- the distances of two multiples that are d or more apart
nearer : (n d m t : ℤ) → pos 0 <ℤ d → IsHalfUp n d m → ((t +ℤ d) ≤ℤ m) ⊎ ((m +ℤ d) ≤ℤ t) → unsigned_abs (n -ℤ m) ≤ unsigned_abs (n -ℤ t)
nearer n d m t some half (inl below) = omega (arith, ints, half.low, half.high)
nearer n d m t some half (inr above) = omega (arith, ints, half.low, half.high)

-- no multiple above m, none two steps below it, and none below 0 is as near
tie_above : (n d m t : ℤ) → pos 0 <ℤ d → IsHalfUp n d m → (m +ℤ d) ≤ℤ t → unsigned_abs (n -ℤ m) ≡ unsigned_abs (n -ℤ t) → ⊥
tie_above n d m t some half above tie = omega (arith, ints, half.low, half.high)

tie_two_below : (n d m p t : ℤ) → pos 0 <ℤ d → IsHalfUp n d m → (t +ℤ d) ≤ℤ p → (p +ℤ d) ≤ℤ m → unsigned_abs (n -ℤ m) ≡ unsigned_abs (n -ℤ t) → ⊥
tie_two_below n d m p t some half below next tie = omega (arith, ints, half.low, half.high)

tie_below_zero : (n d q t : ℤ) → pos 0 ≤ℤ n → pos 0 <ℤ d → pos 0 ≤ℤ q → q ≤ℤ pos 0 → (t +ℤ d) ≤ℤ (q *ℤ d) → unsigned_abs (n -ℤ q *ℤ d) ≡ unsigned_abs (n -ℤ t) → ⊥
tie_below_zero n d q t low some sign none below tie =
    let zero : q ≡ pos 0 = omega (arith, ints) in
    let product : q *ℤ d ≡ pos 0 *ℤ d = ap (λ s. s *ℤ d) zero in
    omega (arith, ints)

pub half_up_IsNearest : (n d q : ℤ) → pos 0 ≤ℤ n → pos 0 <ℤ d → IsFloor (pos 2 *ℤ n +ℤ d) (pos 2 *ℤ d) q → pos 0 ≤ℤ q → IsNearest n d q
half_up_IsNearest n d q low some f sign = record { closest = closest; tie_away = tie_away } where
  half : IsHalfUp n d (q *ℤ d)
  half = half_up_from_floor n d q some f

  closest : (z : ℤ) → distance n d q ≤ distance n d z
  closest z = by_lt_z z q
      (λ less. nearer n d (q *ℤ d) (z *ℤ d) some half (inl (apart_below d q z some less)))
      (λ le. by_lt_z q z
      (λ less. nearer n d (q *ℤ d) (z *ℤ d) some half (inr (apart_below d z q some less)))
      (λ back. let same : z ≡ q = omega (arith, ints) in let P : ℤ → Type 0 = λ t. distance n d q ≤ distance n d t in subst P (sym same) (omega arith)))

  tie_away : (z : ℤ) → distance n d q ≡ distance n d z → unsigned_abs z ≤ unsigned_abs q
  tie_away z tie = by_lt_z z q
      (λ less. by_lt_z (pos 0) q
      (λ more. by_lt_z z (q -ℤ pos 1)
      (λ far. absurd (tie_two_below n d (q *ℤ d) ((q -ℤ pos 1) *ℤ d) (z *ℤ d) some half (apart_below d (q -ℤ pos 1) z some far) (apart_below d q (q -ℤ pos 1) some (omega (arith, ints))) tie))
      (λ near. omega (arith, ints)))
      (λ none. absurd (tie_below_zero n d q (z *ℤ d) low some sign none (apart_below d q z some less) tie)))
      (λ le. by_lt_z q z
      (λ less. absurd (tie_above n d (q *ℤ d) (z *ℤ d) some half (apart_below d z q some less) tie))
      (λ back. omega (arith, ints)))

floor_of-low : (n d : ℤ) → pos 0 <ℤ d → pos 0 ≤ℤ n → pos 0 ≤ℤ floor_of n d
unfolding floor_of
floor_of-low (pos a) (pos b) some low = omega (arith, ints)
floor_of-low (pos a) (negsuc b) some low = absurd (omega (arith, ints))
floor_of-low (negsuc a) d some low = absurd (omega (arith, ints))

nearest_of-pos : (a : ℕ) (d : ℤ) → pos 0 <ℤ d → IsNearest (pos a) d (nearest_of (pos a) d)
unfolding nearest_of
nearest_of-pos a d some =
    half_up_IsNearest (pos a) d _ (omega (arith, ints)) some
    (floor_of-IsFloor (pos 2 *ℤ pos a +ℤ d) (pos 2 *ℤ d) (omega (arith, ints)))
    (floor_of-low (pos 2 *ℤ pos a +ℤ d) (pos 2 *ℤ d) (omega (arith, ints)) (omega (arith, ints)))

-- to turn both signs turns nothing in a distance
distance-neg : (n d z : ℤ) → distance (neg_ℤ n) d z ≡ distance n d (neg_ℤ z)
distance-neg n d z = omega (arith, ints, neg-*ℤ z d)

pub IsNearest-neg : (n d q : ℤ) → IsNearest n d q → IsNearest (neg_ℤ n) d (neg_ℤ q)
IsNearest-neg n d q near =
    let back : neg_ℤ (neg_ℤ q) ≡ q = omega (arith, ints) in
    let here : distance (neg_ℤ n) d (neg_ℤ q) ≡ distance n d q = distance-neg n d (neg_ℤ q) ∙ ap (distance n d) back in
    record {
      closest = λ z. omega (arith, here, distance-neg n d z, near.closest (neg_ℤ z));
      tie_away = λ z tie. omega (arith, ints, near.tie_away (neg_ℤ z) (sym here ∙ tie ∙ distance-neg n d z));
    }

nearest_of-neg : (a : ℕ) (d : ℤ) → nearest_of (negsuc a) d ≡ neg_ℤ (nearest_of (pos (suc a)) d)
unfolding nearest_of ceil_of
nearest_of-neg a d =
    let turned : neg_ℤ (pos 2 *ℤ negsuc a -ℤ d) ≡ pos 2 *ℤ pos (suc a) +ℤ d = omega (arith, ints) in
    ap (λ t. neg_ℤ (floor_of t (pos 2 *ℤ d))) turned

pub nearest_of-IsNearest : (n d : ℤ) → pos 0 <ℤ d → IsNearest n d (nearest_of n d)
nearest_of-IsNearest (pos a) d some = nearest_of-pos a d some
nearest_of-IsNearest (negsuc a) d some =
    subst (IsNearest (negsuc a) d) (sym (nearest_of-neg a d)) (IsNearest-neg (pos (suc a)) d (nearest_of (pos (suc a)) d) (nearest_of-pos (suc a) d some))

-- the two halves of `nearest`
pub nearest_of-not_negative : (n d : ℤ) → pos 0 ≤ℤ n → nearest_of n d ≡ floor_of (pos 2 *ℤ n +ℤ d) (pos 2 *ℤ d)
unfolding nearest_of
nearest_of-not_negative (pos a) d low = refl
nearest_of-not_negative (negsuc a) d low = absurd (omega (arith, ints))

pub nearest_of-negative : (n d : ℤ) → n <ℤ pos 0 → nearest_of n d ≡ ceil_of (pos 2 *ℤ n -ℤ d) (pos 2 *ℤ d)
unfolding nearest_of
nearest_of-negative (pos a) d low = absurd (omega (arith, ints))
nearest_of-negative (negsuc a) d low = refl

-- two numbers are not both nearest
nearest_apart : (n d p q : ℤ) → pos 0 <ℤ d → IsNearest n d p → IsNearest n d q → p <ℤ q → ⊥
nearest_apart n d p q some one other less =
    let same : distance n d p ≡ distance n d q = omega (arith, one.closest q, other.closest p) in
    let opposite : p ≡ neg_ℤ q = omega (arith, ints, one.tie_away q same, other.tie_away p (sym same)) in
    let product : p *ℤ d ≡ neg_ℤ (q *ℤ d) = ap (λ t. t *ℤ d) opposite ∙ neg-*ℤ q d in
    let none : pos 0 *ℤ d ≡ pos 0 = omega (arith, ints) in
    omega (arith, ints, apart_below d q p some less, one.closest (pos 0))

-- only one number is nearest
pub IsNearest-unique : (n d p q : ℤ) → pos 0 <ℤ d → IsNearest n d p → IsNearest n d q → p ≡ q
IsNearest-unique n d p q some one other = by_lt_z p q
    (λ less. absurd (nearest_apart n d p q some one other less))
    (λ le. by_lt_z q p (λ less. absurd (nearest_apart n d q p some other one less)) (λ back. omega (arith, ints)))
