-- The order of the whole numbers, and how sums and products meet it.
use Rattle.std.proofs.Common.{◌≡◌, ℕ, ◌+◌, ◌*◌, ◌^◌, ◌≤◌, ◌⊎◌, inl, inr, ap, sym, ◌∙◌, subst, arith, one-mul, add-mul, ℤ, pos, negsuc, ◌+ℤ◌, ◌-ℤ◌, ◌*ℤ◌, neg_ℤ, ◌≤ℤ◌, ◌<ℤ◌}
use Rattle.std.specs.Prelude.{unsigned_abs}
use Rattle.std.proofs.Math.Nat.{mul-le-mul, pow-suc, pow-zero}
use Rattle.std.proofs.lemmas.Int.{ints, by_lt_z, unsigned_abs-mul}
use Rattle.whole_algebra.proofs.Ring.{mul_comm, mul_add, add_mul, mul_zero}

-- b is a and something that isn't negative
pub le_by : (a b d : ℤ) → pos 0 ≤ℤ d → b ≡ a +ℤ d → a ≤ℤ b
le_by a b d h e = omega (arith, ints)

pub le_refl : (a : ℤ) → a ≤ℤ a
le_refl a = omega (arith, ints)

pub le_trans : (a b c : ℤ) → a ≤ℤ b → b ≤ℤ c → a ≤ℤ c
le_trans a b c h k = omega (arith, ints)

pub le_of_eq : (a b : ℤ) → a ≡ b → a ≤ℤ b
le_of_eq a b e = omega (arith, ints)

pub le_antisym : (a b : ℤ) → a ≤ℤ b → b ≤ℤ a → a ≡ b
le_antisym a b h k = omega (arith, ints)

pub add_nonneg : (a b : ℤ) → pos 0 ≤ℤ a → pos 0 ≤ℤ b → pos 0 ≤ℤ (a +ℤ b)
add_nonneg a b h k = omega (arith, ints)

pub add_le_add : (a b c d : ℤ) → a ≤ℤ b → c ≤ℤ d → (a +ℤ c) ≤ℤ (b +ℤ d)
add_le_add a b c d h k = omega (arith, ints)

-- a number is a natural number or the opposite of one
pub sign_cases : (a : ℤ) → (pos 0 ≤ℤ a) ⊎ (a ≤ℤ pos 0)
sign_cases (pos n) = inl (omega (arith, ints))
sign_cases (negsuc n) = inr (omega (arith, ints))

pub mul_nonneg : (a b : ℤ) → pos 0 ≤ℤ a → pos 0 ≤ℤ b → pos 0 ≤ℤ (a *ℤ b)
mul_nonneg (pos m) (pos n) h k = omega (arith, ints)
mul_nonneg (pos m) (negsuc n) h k = omega (arith, ints)
mul_nonneg (negsuc m) b h k = omega (arith, ints)

pub square_nonneg : (a : ℤ) → pos 0 ≤ℤ (a *ℤ a)
square_nonneg (pos n) = omega (arith, ints)
square_nonneg (negsuc n) = omega (arith, ints)

-- a factor that isn't negative keeps the order
pub mul_le_mul : (a b c : ℤ) → pos 0 ≤ℤ a → b ≤ℤ c → (a *ℤ b) ≤ℤ (a *ℤ c)
mul_le_mul a b c h k =
    let d = c -ℤ b in
    let e : c ≡ b +ℤ d = omega (arith, ints) in
    le_by (a *ℤ b) (a *ℤ c) (a *ℤ d) (mul_nonneg a d h (omega (arith, ints))) (ap (λ t. a *ℤ t) e ∙ mul_add a b d)

pub mul_le_mul_right : (a b c : ℤ) → pos 0 ≤ℤ a → b ≤ℤ c → (b *ℤ a) ≤ℤ (c *ℤ a)
mul_le_mul_right a b c h k =
    let e = mul_comm b a in
    let f = mul_comm c a in
    let g = mul_le_mul a b c h k in
    omega (arith, ints)

-- a product of two positive numbers is positive
pub mul_pos : (a b : ℤ) → pos 0 <ℤ a → pos 0 <ℤ b → pos 0 <ℤ (a *ℤ b)
mul_pos a b h k =
    let p : pos 0 ≤ℤ ((a -ℤ pos 1) *ℤ b) = mul_nonneg (a -ℤ pos 1) b (omega (arith, ints)) (omega (arith, ints)) in
    let e = add_mul a (neg_ℤ (pos 1)) b in
    let f : neg_ℤ (pos 1) *ℤ b ≡ neg_ℤ b = omega (arith, ints) in
    omega (arith, ints)

-- a positive factor may be taken off
pub le_of_mul_le : (a b c : ℤ) → pos 0 <ℤ a → (a *ℤ b) ≤ℤ (a *ℤ c) → b ≤ℤ c
le_of_mul_le a b c h k =
    by_lt_z c b
    (λ lt.
    let d = b -ℤ c in
    let p = mul_pos a d h (omega (arith, ints)) in
    let e : b ≡ c +ℤ d = omega (arith, ints) in
    let f : a *ℤ b ≡ a *ℤ c +ℤ a *ℤ d = ap (λ t. a *ℤ t) e ∙ mul_add a c d in
    omega (arith, ints))
    (λ le. le)

-- a product with a positive factor is not negative exactly where the other factor isn't
pub nonneg_of_mul : (a b : ℤ) → pos 0 <ℤ a → pos 0 ≤ℤ (a *ℤ b) → pos 0 ≤ℤ b
nonneg_of_mul a b h k = le_of_mul_le a (pos 0) b h (le_by_zero a b k)
  where
    le_by_zero : (a b : ℤ) → pos 0 ≤ℤ (a *ℤ b) → (a *ℤ pos 0) ≤ℤ (a *ℤ b)
    le_by_zero a b k = subst (λ t. t ≤ℤ (a *ℤ b)) (sym (mul_zero a)) k

pub neg_of_mul : (a b : ℤ) → pos 0 ≤ℤ a → (a *ℤ b) <ℤ pos 0 → b <ℤ pos 0
neg_of_mul a b h k =
    by_lt_z b (pos 0) (λ lt. lt) (λ le. let p = mul_nonneg a b h le in omega (arith, ints))

-- ---- sizes
pub size-add : (a b : ℤ) → unsigned_abs (a +ℤ b) ≤ unsigned_abs a + unsigned_abs b
size-add a b = omega (arith, ints)

-- a sum of k parts and one part more, of numbers of at most the size m
pub size_more : (sum part : ℤ) (k m : ℕ) → unsigned_abs sum ≤ k * m → unsigned_abs part ≤ m → unsigned_abs (sum +ℤ part) ≤ (k + 1) * m
size_more sum part k m so_far this =
    let both = size-add sum part in
    let more = add-mul k 1 m in
    let one = one-mul m in
    omega arith

pub size-mul : (a b : ℤ) (m n : ℕ) → unsigned_abs a ≤ m → unsigned_abs b ≤ n → unsigned_abs (a *ℤ b) ≤ m * n
size-mul a b m n h k = rw (unsigned_abs-mul a b) (mul-le-mul h k)

pub square_is : (t : ℕ) → t ^ 2 ≡ t * t
square_is t = pow-suc t 1 ∙ ap (λ q. q * t) (pow-one t)
  where
    pow-one : (t : ℕ) → t ^ 1 ≡ t
    pow-one t = pow-suc t 0 ∙ ap (λ q. q * t) (pow-zero t) ∙ one-mul t
