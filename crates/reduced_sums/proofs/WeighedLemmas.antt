use Rattle.std.proofs.Common.{◌≡◌, ◌≤◌, ◌^◌, ℕ, ◌+◌, ◌*◌, ℤ, pos, ◌-ℤ◌, List, [], ◌∷◌, ◌++◌, length, get_or, arith, refl, ap, ap₂, ◌∙◌, sym, length-append}
use Rattle.std.specs.Prelude.{sum_by, unsigned_abs}
use Rattle.std.proofs.lemmas.Int.{ints}
use Rattle.std.proofs.lemmas.List.Sums.{sum_by-append}
use Rattle.whole_algebra.specs.Matrices.{at}
use Rattle.geo_model.specs.Dual.{WeighedCover, reduced_price, taken_off}
use Rattle.geo_model.specs.Prices.{PricesOf}
use Rattle.reduced_sums.specs.Weighed.{AreWeighed}

-- The shares of a dual bound, taken off the prices one after another.

-- the sum of f over shares and one more
one_more : (f : WeighedCover → ℕ) (shares : List WeighedCover) (share : WeighedCover) → sum_by f (shares ++ share ∷ []) ≡ sum_by f shares + f share
one_more f shares share =
    let added = sum_by-append f shares (share ∷ []) in
    let one : sum_by f (share ∷ []) ≡ f share = alone (f share) in
    omega (arith, added, one)
  where
    alone : (n : ℕ) → 0 + n ≡ n
    alone n = omega arith

less_more : (p : ℤ) (m n : ℕ) → (p -ℤ pos m) -ℤ pos n ≡ p -ℤ pos (m + n)
less_more p m n = omega (arith, ints)

-- no share yet
pub weighed_start : (prices : PricesOf) (divisor : ℕ) (reduced : List ℤ) → ((i : ℕ) → at reduced i ≡ reduced_price prices divisor [] i) → ((i : ℕ) → unsigned_abs (at reduced i) ≤ 2 ^ 74) → AreWeighed prices divisor [] reduced 0
weighed_start prices divisor reduced taken small = record { taken = taken; sum = refl; small = λ i. omega (arith, small i); paid_small = omega arith }

-- one share more
pub weighed_more : (prices : PricesOf) (divisor : ℕ) (shares : List WeighedCover) (share : WeighedCover) (reduced now : List ℤ) (paid part : ℕ) → AreWeighed prices divisor shares reduced paid
    → part ≡ share.multiplier * share.cover.bound → part ≤ 2 ^ 68
    → ((i : ℕ) → at now i ≡ at reduced i -ℤ pos (share.multiplier * get_or share.cover.coefficients i 0)) → ((i : ℕ) → unsigned_abs (at now i) ≤ unsigned_abs (at reduced i) + 2 ^ 68)
    → AreWeighed prices divisor (shares ++ share ∷ []) now (paid + part)
weighed_more prices divisor shares share reduced now paid part weighed is few taken near =
    let long : length (shares ++ share ∷ []) ≡ length shares + 1 = length-append shares (share ∷ []) in
    record {
      taken = λ i.
          taken i ∙ ap (λ z. z -ℤ pos (share.multiplier * get_or share.cover.coefficients i 0)) (weighed.taken i)
          ∙ less_more (pos (divisor * get_or prices.candidates i 0)) (taken_off shares i) (share.multiplier * get_or share.cover.coefficients i 0)
          ∙ ap (λ n. pos (divisor * get_or prices.candidates i 0) -ℤ pos n) (sym (one_more (λ s. s.multiplier * get_or s.cover.coefficients i 0) shares share));
      sum = ap₂ (λ m n. m + n) weighed.sum is ∙ sym (one_more (λ s. s.multiplier * s.cover.bound) shares share);
      small = λ i. omega (arith, near i, weighed.small i, long);
      paid_small = omega (arith, weighed.paid_small, few, long);
    }

-- what so few shares leave and pay is small
pub weighed_small : (prices : PricesOf) (divisor : ℕ) (shares : List WeighedCover) (reduced : List ℤ) (paid : ℕ) → length shares ≤ 64 → AreWeighed prices divisor shares reduced paid → ((i : ℕ) → unsigned_abs (at reduced i) ≤ 2 ^ 75) × (paid ≤ 2 ^ 74)
weighed_small prices divisor shares reduced paid few weighed = (λ i. omega (arith, weighed.small i, few), omega (arith, weighed.paid_small, few))
