-- Products and differences of whole numbers stay within a size.
use Rattle.std.proofs.Common.{◌≡◌, ℕ, ◌+◌, ◌^◌, ◌≤◌, sym, ◌∙◌, ap, ap₂, subst, arith, FitsSigned, to_z, of_z, ℤ, ◌-ℤ◌, ◌*ℤ◌, unsigned_abs}
use Rattle.std.specs.Int.{w128}
use Rattle.std.proofs.lemmas.Int.{ints, unsigned_abs-mul, fits_signed_from_abs}
use Rattle.std.proofs.lemmas.Nat.{mul-le}
use Rattle.whole_algebra.proofs.Written.{read_back}

pub product_size : (p q : ℤ) → unsigned_abs p ≤ 2 ^ 62 → unsigned_abs q ≤ 2 ^ 62 → unsigned_abs (p *ℤ q) ≤ 2 ^ 124
product_size p q h g = subst (λ n. n ≤ 2 ^ 124) (sym (unsigned_abs-mul p q)) (mul-le (unsigned_abs p) (unsigned_abs q) (2 ^ 62) (2 ^ 62) h g)

pub difference_size : (p q : ℤ) (k : ℕ) → unsigned_abs p ≤ k → unsigned_abs q ≤ k → unsigned_abs (p -ℤ q) ≤ k + k
difference_size p q k h g = omega (arith, ints)

pub in_range : (z : ℤ) → unsigned_abs z ≤ 2 ^ 126 → FitsSigned w128 z
in_range z h = fits_signed_from_abs w128 z (omega arith)

-- the difference of two numbers that were written and read back
pub difference_back : (x y : ℤ) → unsigned_abs x ≤ 2 ^ 124 → unsigned_abs y ≤ 2 ^ 124
    → FitsSigned w128 (to_z w128 (of_z w128 x) -ℤ to_z w128 (of_z w128 y))
    × (to_z w128 (of_z w128 (to_z w128 (of_z w128 x) -ℤ to_z w128 (of_z w128 y))) ≡ x -ℤ y)
difference_back x y h g =
    let e : to_z w128 (of_z w128 x) -ℤ to_z w128 (of_z w128 y) ≡ x -ℤ y = ap₂ (λ p q. p -ℤ q) (read_back x (2 ^ 126) (omega arith) (omega arith)) (read_back y (2 ^ 126) (omega arith) (omega arith)) in
    let k = difference_size x y (2 ^ 124) h g in (
      subst (λ z. FitsSigned w128 z) (sym e) (in_range (x -ℤ y) (omega arith)),
      subst (λ z. to_z w128 (of_z w128 z) ≡ x -ℤ y) (sym e) (read_back (x -ℤ y) (2 ^ 126) (omega arith) (omega arith)),
    )

abbrev pub kept : ℤ → ℤ
kept z = to_z w128 (of_z w128 z)

-- a difference of products, of numbers that were written and read back
pub products_kept : (s c r p q x y : ℤ)
    → unsigned_abs s ≤ 2 ^ 61 → unsigned_abs c ≤ 2 ^ 61 → unsigned_abs r ≤ 2 ^ 61 → unsigned_abs p ≤ 2 ^ 61 → unsigned_abs q ≤ 2 ^ 61
    → x ≡ kept s *ℤ kept (kept c -ℤ kept r) → y ≡ kept p *ℤ kept q → x -ℤ y ≡ s *ℤ (c -ℤ r) -ℤ p *ℤ q
products_kept s c r p q x y hs hc hr hp hq e f =
    let d : kept c -ℤ kept r ≡ c -ℤ r = ap₂ (λ u v. u -ℤ v) (read_back c (2 ^ 126) (omega arith) (omega arith)) (read_back r (2 ^ 126) (omega arith) (omega arith)) in
    let size = difference_size c r (2 ^ 61) hc hr in
    ap₂ (λ u v. u -ℤ v)
    (e ∙ ap₂ (λ u v. u *ℤ v) (read_back s (2 ^ 126) (omega arith) (omega arith)) (ap kept d ∙ read_back (c -ℤ r) (2 ^ 126) (omega arith) (omega arith)))
    (f ∙ ap₂ (λ u v. u *ℤ v) (read_back p (2 ^ 126) (omega arith) (omega arith)) (read_back q (2 ^ 126) (omega arith) (omega arith)))
