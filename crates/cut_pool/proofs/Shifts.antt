-- The least power of two that brings a number below 2 ^ 24.
use Rattle.std.proofs.Common.{◌≡◌, ℕ, zero, suc, ◌+◌, ◌/◌, ◌^◌, ◌<◌, ◌≤◌, if◌then◌else◌, Bool, true, false, inl, inr, refl, subst, arith}
use Rattle.std.specs.Prelude.{nat_lt}
use Rattle.std.proofs.Math.Pow.{shr_lt}
use Rattle.std.proofs.lemmas.Bool.{cases_lt, false≢true, ltb-true, lt-ltb}
use Rattle.cut_pool.specs.Cut.{IsShift, first_shift, cut_shift}

-- there is one least number alone
pub shift-unique : (n s t : ℕ) → IsShift n s → IsShift n t → s ≡ t
shift-unique n s t first second =
    elim (cases_lt s t) [
      | inl less ↦ absurd (let low = second.least s less in let high = first.reached in omega arith)
      | inr le ↦ elim (cases_lt t s) [
        | inl more ↦ absurd (let low = first.least t more in let high = second.reached in omega arith)
        | inr ge ↦ omega arith
      ]
    ]

one_further : (n from : ℕ) → ((s : ℕ) → s < from → 2 ^ 24 ≤ n / 2 ^ s) → 2 ^ 24 ≤ n / 2 ^ from → (s : ℕ) → s < suc from → 2 ^ 24 ≤ n / 2 ^ s
one_further n from below here s lt =
    elim (cases_lt s from) [
      | inl less ↦ below s less
      | inr le ↦ same s (omega arith)
    ]
  where
    same : (s : ℕ) → s ≡ from → 2 ^ 24 ≤ n / 2 ^ s
    same s e = rw e here

first_shift-least : (many from n : ℕ) → ((s : ℕ) → s < from → 2 ^ 24 ≤ n / 2 ^ s) → n < 2 ^ (24 + (from + many)) → IsShift n (first_shift many from n)
first_shift-least zero from n below small = record {
  reached = shr_lt 24 from (subst (λ (k : ℕ). n < 2 ^ (24 + k)) (omega arith) small);
  least = below;
}
first_shift-least (suc many) from n below small =
    by (nat_lt (n / 2 ^ from) (2 ^ 24)) (λ e. ltb-true (n / 2 ^ from) (2 ^ 24) e) (λ h. lt-ltb (n / 2 ^ from) (2 ^ 24) h)
    (λ high. first_shift-least many (suc from) n (one_further n from below high) (subst (λ (k : ℕ). n < 2 ^ (24 + k)) (omega arith) small))
  where
    by : (b : Bool) → (b ≡ true → n / 2 ^ from < 2 ^ 24) → (n / 2 ^ from < 2 ^ 24 → b ≡ true) → (2 ^ 24 ≤ n / 2 ^ from → IsShift n (first_shift many (suc from) n))
        → IsShift n (if b then from else first_shift many (suc from) n)
    by true here there later = record { reached = here refl; least = below }
    by false here there later =
        elim (cases_lt (n / 2 ^ from) (2 ^ 24)) [ inl less ↦ absurd (false≢true (there less)) | inr le ↦ later le ]

-- the shift of a cut is the least one
pub cut_shift-least : (n : ℕ) → n < 2 ^ 120 → IsShift n (cut_shift n)
unfolding cut_shift
cut_shift-least n small = first_shift-least 128 0 n (λ s lt. absurd (omega arith)) (omega arith)
