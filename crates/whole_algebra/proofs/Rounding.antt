-- Whole division that rounds down.
use Rattle.std.proofs.Common.{◌≡◌, ℕ, zero, suc, ◌+◌, ◌*◌, ◌<◌, Bool, true, false, cond, not, T, ◌∙◌, ap, arith, ℤ, pos, negsuc, ◌+ℤ◌, ◌*ℤ◌, ◌≤ℤ◌, ◌<ℤ◌}
use Rattle.std.specs.Int.{int_div_euclid, int_rem_euclid}
use Rattle.std.proofs.lemmas.Int.{ints, by_lt_z}
use borrow.Author.Differences.{up, down}
use Rattle.whole_algebra.specs.Rounding.{is_zero, floor_over, gap_over, ceil_over}
use Rattle.whole_algebra.proofs.Ring.{mul_add, mul_one, mul_zero}
use Rattle.whole_algebra.proofs.Order.{mul_le_mul, le_of_mul_le}
use Rattle.whole_algebra.proofs.Normal.{is_zero_lem}

-- the parts of quotient and remainder, for `omega`
quotient_parts : (n : ℤ) (k : ℕ) → 0 < k
    → (up n + down (int_div_euclid n (pos k)) * k ≡ down n + up (int_div_euclid n (pos k)) * k + up (int_rem_euclid n (pos k)))
    × (down (int_rem_euclid n (pos k)) ≡ 0) × (up (int_rem_euclid n (pos k)) < k)
quotient_parts (pos n) k h = omega arith
quotient_parts (negsuc n) k h = omega arith

-- n is a times the floor, and the remainder
pub floor_split : (a n : ℤ) → pos 0 <ℤ a → n ≡ a *ℤ floor_over a n +ℤ int_rem_euclid n a
floor_split (pos k) n h =
    let p = quotient_parts n k (omega (arith, ints)) in
    omega (arith, ints)
floor_split (negsuc k) n h = omega (arith, ints)

pub remainder_range : (a n : ℤ) → pos 0 <ℤ a → (pos 0 ≤ℤ int_rem_euclid n a) × (int_rem_euclid n a <ℤ a)
remainder_range (pos k) n h =
    let p = quotient_parts n k (omega (arith, ints)) in
    (omega (arith, ints), omega (arith, ints))
remainder_range (negsuc k) n h = omega (arith, ints)

pub floor_low : (a n : ℤ) → pos 0 <ℤ a → (a *ℤ floor_over a n) ≤ℤ n
floor_low a n h =
    let e = floor_split a n h in
    let r = remainder_range a n h in
    omega (arith, ints)

pub floor_high : (a n : ℤ) → pos 0 <ℤ a → n <ℤ (a *ℤ floor_over a n +ℤ a)
floor_high a n h =
    let e = floor_split a n h in
    let r = remainder_range a n h in
    omega (arith, ints)

-- the floor is the only whole number between
pub floor_unique : (a n q : ℤ) → pos 0 <ℤ a → (a *ℤ q) ≤ℤ n → n <ℤ (a *ℤ q +ℤ a) → floor_over a n ≡ q
floor_unique a n q h low high =
    let f = floor_over a n in
    let f_low = floor_low a n h in
    let f_high = floor_high a n h in
    let e : a *ℤ (q +ℤ pos 1) ≡ a *ℤ q +ℤ a = mul_add a q (pos 1) ∙ ap (λ t. a *ℤ q +ℤ t) (mul_one a) in
    let e' : a *ℤ (f +ℤ pos 1) ≡ a *ℤ f +ℤ a = mul_add a f (pos 1) ∙ ap (λ t. a *ℤ f +ℤ t) (mul_one a) in
    let up_to : f ≤ℤ q = by_lt_z q f (λ lt. let k = mul_le_mul a (q +ℤ pos 1) f (omega (arith, ints)) (omega (arith, ints)) in omega (arith, ints)) (λ le. le) in
    let down_to : q ≤ℤ f = by_lt_z f q (λ lt. let k = mul_le_mul a (f +ℤ pos 1) q (omega (arith, ints)) (omega (arith, ints)) in omega (arith, ints)) (λ le. le) in
    omega (arith, ints)

-- ---- the gap
gap_by : (t : Bool) → (pos 0 ≤ℤ cond t (pos 0) (pos 1)) × (cond t (pos 0) (pos 1) ≤ℤ pos 1)
gap_by true = omega (arith, ints)
gap_by false = omega (arith, ints)

pub gap_range : (a n : ℤ) → (pos 0 ≤ℤ gap_over a n) × (gap_over a n ≤ℤ pos 1)
gap_range a n = gap_by (is_zero (int_rem_euclid n a))

gap_covers_by : (a r : ℤ) (t : Bool) → (T t → r ≡ pos 0) → r <ℤ a → r ≤ℤ (a *ℤ cond t (pos 0) (pos 1))
gap_covers_by a r true none h = let e = none tt in omega (arith, ints)
gap_covers_by a r false none h = omega (arith, ints)

-- a times the gap is at least what the floor leaves
pub gap_covers : (a n : ℤ) → pos 0 <ℤ a → n ≤ℤ (a *ℤ floor_over a n +ℤ a *ℤ gap_over a n)
gap_covers a n h =
    let e = floor_split a n h in
    let r = remainder_range a n h in
    let k = gap_covers_by a (int_rem_euclid n a) (is_zero (int_rem_euclid n a)) (is_zero_lem (int_rem_euclid n a)) r.1 in
    omega (arith, ints)

-- a multiple of a goes straight through
pub floor_shift : (a c n : ℤ) → pos 0 <ℤ a → floor_over a (a *ℤ c +ℤ n) ≡ c +ℤ floor_over a n
floor_shift a c n h =
    let e : a *ℤ (c +ℤ floor_over a n) ≡ a *ℤ c +ℤ a *ℤ floor_over a n = mul_add a c (floor_over a n) in
    let low = floor_low a n h in
    let high = floor_high a n h in
    floor_unique a (a *ℤ c +ℤ n) (c +ℤ floor_over a n) h (omega (arith, ints)) (omega (arith, ints))

pub remainder_shift : (a c n : ℤ) → pos 0 <ℤ a → int_rem_euclid (a *ℤ c +ℤ n) a ≡ int_rem_euclid n a
remainder_shift a c n h =
    let e = floor_split a (a *ℤ c +ℤ n) h in
    let f = floor_split a n h in
    let g : a *ℤ floor_over a (a *ℤ c +ℤ n) ≡ a *ℤ c +ℤ a *ℤ floor_over a n = ap (λ t. a *ℤ t) (floor_shift a c n h) ∙ mul_add a c (floor_over a n) in
    omega (arith, ints)

pub gap_shift : (a c n : ℤ) → pos 0 <ℤ a → gap_over a (a *ℤ c +ℤ n) ≡ gap_over a n
gap_shift a c n h = ap (λ r. cond (is_zero r) (pos 0) (pos 1)) (remainder_shift a c n h)

not_zero_out : (r : ℤ) → pos 0 ≤ℤ r → T (not (is_zero r)) → pos 1 ≤ℤ r
not_zero_out (pos zero) h t = absurd t
not_zero_out (pos (suc n)) h t = omega (arith, ints)
not_zero_out (negsuc n) h t = omega (arith, ints)

ceil_by : (a f c n r : ℤ) (t : Bool) → (T (not t) → pos 1 ≤ℤ r) → pos 0 <ℤ a → pos 0 ≤ℤ r → n ≡ a *ℤ f +ℤ r → n ≤ℤ (a *ℤ c)
    → (f +ℤ cond t (pos 0) (pos 1)) ≤ℤ c
ceil_by a f c n r true more h nonneg e le =
    let k = le_of_mul_le a f c h (omega (arith, ints)) in
    omega (arith, ints)
ceil_by a f c n r false more h nonneg e le =
    let one = more tt in
    by_lt_z f c (λ lt. omega (arith, ints)) (λ ge. let k = mul_le_mul a c f (omega (arith, ints)) ge in omega (arith, ints))

-- the ceiling is at most a whole number that is at least the fraction
pub ceil_at_most : (a n c : ℤ) → pos 0 <ℤ a → n ≤ℤ (a *ℤ c) → ceil_over a n ≤ℤ c
ceil_at_most a n c h le =
    let range = remainder_range a n h in
    ceil_by a (floor_over a n) c n (int_rem_euclid n a) (is_zero (int_rem_euclid n a)) (not_zero_out (int_rem_euclid n a) range.0) h range.0 (floor_split a n h) le

-- nothing over a is nothing
pub floor_of_zero : (a : ℤ) → pos 0 <ℤ a → floor_over a (pos 0) ≡ pos 0
floor_of_zero a h =
    let e = mul_zero a in
    floor_unique a (pos 0) (pos 0) h (omega (arith, ints)) (omega (arith, ints))

pub gap_of_zero : (a : ℤ) → pos 0 <ℤ a → gap_over a (pos 0) ≡ pos 0
gap_of_zero a h =
    let e = floor_split a (pos 0) h in
    let f : a *ℤ floor_over a (pos 0) ≡ pos 0 = ap (λ t. a *ℤ t) (floor_of_zero a h) ∙ mul_zero a in
    let r : int_rem_euclid (pos 0) a ≡ pos 0 = omega (arith, ints) in
    ap (λ t. cond (is_zero t) (pos 0) (pos 1)) r

-- a floor lies between whole numbers that the fraction lies between
pub floor_at_least : (a n c : ℤ) → pos 0 <ℤ a → (a *ℤ c) ≤ℤ n → c ≤ℤ floor_over a n
floor_at_least a n c h le =
    let f = floor_over a n in
    let high = floor_high a n h in
    let e : a *ℤ (f +ℤ pos 1) ≡ a *ℤ f +ℤ a = mul_add a f (pos 1) ∙ ap (λ t. a *ℤ f +ℤ t) (mul_one a) in
    by_lt_z f c (λ lt. let k = mul_le_mul a (f +ℤ pos 1) c (omega (arith, ints)) (omega (arith, ints)) in omega (arith, ints)) (λ ge. ge)

pub floor_at_most : (a n c : ℤ) → pos 0 <ℤ a → n ≤ℤ (a *ℤ c) → floor_over a n ≤ℤ c
floor_at_most a n c h le =
    let low = floor_low a n h in
    le_of_mul_le a (floor_over a n) c h (omega (arith, ints))
