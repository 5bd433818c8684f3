use Rattle.std.proofs.Common.{◌≡◌, ◌<◌, ◌≤◌, ◌^◌, ℕ, ◌+◌, ◌*◌, ℤ, pos, ◌+ℤ◌, to_z, of_z, arith, ap, ap₂, sym, ◌∙◌}
use mir.Syntax.{w128}
use Rattle.std.specs.Prelude.{unsigned_abs}
use Rattle.std.specs.Int.{int_min}
use Rattle.std.proofs.Math.Nat.{mul-le-mul}
use Rattle.whole_algebra.proofs.Order.{size-add, size_more}
use Rattle.whole_algebra.proofs.Written.{read_back}
use Rattle.geo_model.specs.Below.{int_sum_below}
use Rattle.geo_model.proofs.BelowLemmas.{int_sum_below-more}
use Rattle.std.proofs.lemmas.Int.{ints, to_z_pos}

-- Sums of a dual bound stay within 128 bits.

-- a product of the divisor and a price
pub product_price : (d price : ℕ) → d ≤ 2 ^ 44 → price ≤ 1000000000 → d * price ≤ 2 ^ 74
product_price d price few low = omega (arith, mul-le-mul few low)

-- one number more of a sum
pub sum_more : (f : ℕ → ℤ) (n : ℕ) (part before : ℤ) → before ≡ int_sum_below f n → part ≡ f n → before +ℤ part ≡ int_sum_below f (n + 1)
sum_more f n part before so_far here = ap₂ (λ (s t : ℤ). s +ℤ t) so_far here ∙ sym (int_sum_below-more f n)

-- a step of a sum of numbers of at most this size
pub record IsSumStep (f : ℕ → ℤ) (n w : ℕ) (now : ℤ) : Type 0 where
  pub value : now ≡ int_sum_below f (n + 1)
  pub size : unsigned_abs now ≤ (n + 1) * w

-- the number is added, and what is written reads back
pub sum_step : (f : ℕ → ℤ) (n w : ℕ) (part before now : ℤ) → w < 2 ^ 127 → (n + 1) * w < 2 ^ 127 → before ≡ int_sum_below f n → unsigned_abs before ≤ n * w → part ≡ f n → unsigned_abs part ≤ w
    → now ≡ to_z w128 (of_z w128 (before +ℤ to_z w128 (of_z w128 part))) → IsSumStep f n w now
sum_step f n w part before now one all so_far small here light is =
    let read : to_z w128 (of_z w128 part) ≡ part = read_back part w light one in
    let size = size_more before part n w small light in
    let sum : now ≡ before +ℤ part =
    is ∙ ap (λ z. to_z w128 (of_z w128 (before +ℤ z))) read ∙ read_back (before +ℤ part) ((n + 1) * w) size all in
    record { value = sum ∙ sum_more f n part before so_far here; size = rw sum size }

-- nothing is added
pub sum_stays : (f : ℕ → ℤ) (n w : ℕ) (before now : ℤ) → before ≡ int_sum_below f n → unsigned_abs before ≤ n * w → pos 0 ≡ f n → now ≡ before → IsSumStep f n w now
sum_stays f n w before now so_far small here is =
    record {
      value = is ∙ nothing before ∙ sum_more f n (pos 0) before so_far here;
      size = rw is (omega arith);
    }
  where
    nothing : (z : ℤ) → z ≡ z +ℤ pos 0
    nothing z = omega (arith, ints)

-- the lesser of two numbers
pub int_min_swap : (a b : ℤ) → int_min a b ≡ int_min b a
int_min_swap a b = grind (arith, ints)

pub int_min_size : (z : ℤ) (n : ℕ) → unsigned_abs z ≤ n → unsigned_abs (int_min (pos 0) z) ≤ n
int_min_size z n size = grind (arith, ints)

-- a price and a sum of reduced prices
pub record IsWhole (price : ℕ) (sum : ℤ) : Type 0 where
  pub is : to_z w128 (of_z w128 (to_z w128 price +ℤ to_z w128 (of_z w128 sum))) ≡ pos price +ℤ sum
  pub size : unsigned_abs (pos price +ℤ sum) ≤ 257 * 2 ^ 75

pub whole_of : (price : ℕ) (sum : ℤ) → price ≤ 2 ^ 74 → unsigned_abs sum ≤ 256 * 2 ^ 75 → IsWhole price sum
whole_of price sum few small =
    let a : to_z w128 price ≡ pos price = to_z_pos w128 price (omega arith) in
    let b : to_z w128 (of_z w128 sum) ≡ sum = read_back sum (256 * 2 ^ 75) small (omega arith) in
    let size : unsigned_abs (pos price +ℤ sum) ≤ 257 * 2 ^ 75 = omega (arith, ints, size-add (pos price) sum, few, small) in
    record { is = ap₂ (λ s t. to_z w128 (of_z w128 (s +ℤ t))) a b ∙ read_back (pos price +ℤ sum) (257 * 2 ^ 75) size (omega arith); size = size }

-- the sum of four parts
pub record IsFour (inner free stations : ℤ) (shares : ℕ) : Type 0 where
  pub is : to_z w128 (of_z w128 (to_z w128 (of_z w128 (to_z w128 (of_z w128 (to_z w128 (of_z w128 inner) +ℤ to_z w128 (of_z w128 free))) +ℤ to_z w128 (of_z w128 stations))) +ℤ to_z w128 shares))
      ≡ ((inner +ℤ free) +ℤ stations) +ℤ pos shares
  pub size : unsigned_abs (((inner +ℤ free) +ℤ stations) +ℤ pos shares) ≤ 2 ^ 100

pub four_parts : (inner free stations : ℤ) (shares : ℕ) → unsigned_abs inner ≤ 256 * 2 ^ 75 → unsigned_abs free ≤ 256 * 2 ^ 75 → unsigned_abs stations ≤ 1000 * (257 * 2 ^ 75) → shares ≤ 2 ^ 74 → IsFour inner free stations shares
four_parts inner free stations shares first second third fourth =
    let a = read_back inner (256 * 2 ^ 75) first (omega arith) in
    let b = read_back free (256 * 2 ^ 75) second (omega arith) in
    let d = read_back stations (1000 * (257 * 2 ^ 75)) third (omega arith) in
    let e : to_z w128 shares ≡ pos shares = to_z_pos w128 shares (omega arith) in
    let two : unsigned_abs (inner +ℤ free) ≤ 512 * 2 ^ 75 = omega (arith, size-add inner free, first, second) in
    let three : unsigned_abs ((inner +ℤ free) +ℤ stations) ≤ 2 ^ 99 = omega (arith, size-add (inner +ℤ free) stations, two, third) in
    let four : unsigned_abs (((inner +ℤ free) +ℤ stations) +ℤ pos shares) ≤ 2 ^ 100 = omega (arith, ints, size-add ((inner +ℤ free) +ℤ stations) (pos shares), three, fourth) in
    let f = ap₂ (λ s t. to_z w128 (of_z w128 (s +ℤ t))) a b ∙ read_back (inner +ℤ free) (512 * 2 ^ 75) two (omega arith) in
    let g = ap₂ (λ s t. to_z w128 (of_z w128 (s +ℤ t))) f d ∙ read_back ((inner +ℤ free) +ℤ stations) (2 ^ 99) three (omega arith) in
    record {
      is = ap₂ (λ s t. to_z w128 (of_z w128 (s +ℤ t))) g e ∙ read_back (((inner +ℤ free) +ℤ stations) +ℤ pos shares) (2 ^ 100) four (omega arith);
      size = four;
    }
