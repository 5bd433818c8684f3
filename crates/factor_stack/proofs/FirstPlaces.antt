-- The first place that a candidate touches.
use Rattle.std.proofs.Common.{◌≡◌, ℕ, zero, suc, ◌+◌, ◌<◌, ◌≤◌, Bool, true, false, cond, not, List, [], ◌∷◌, length, get_or, sym, ◌∙◌, ap, arith, inl, inr}
use Rattle.std.specs.List.{position_or_len}
use Rattle.std.specs.Prelude.{Some, slice_get}
use Rattle.std.proofs.lemmas.Bool.{cases_lt}

-- the place at which a test is met first
pub is_position : (p : ℕ → Bool) (xs : List ℕ) (i : ℕ) → i ≤ length xs → ((j : ℕ) → j < i → p (get_or xs j 0) ≡ false) → (i < length xs → p (get_or xs i 0) ≡ true) → i ≡ position_or_len p xs
is_position p [] i le fails here = omega arith
is_position p (x ∷ xs) zero le fails here = sym (ap (λ b. cond (not b) (1 + position_or_len p xs) 0) (here (omega arith)))
is_position p (x ∷ xs) (suc i) le fails here =
    let later : i ≡ position_or_len p xs = is_position p xs i (omega arith) (λ j lt. fails (suc j) (omega arith)) (λ lt. here (omega arith)) in
    more i (position_or_len p xs) later ∙ sym (ap (λ b. cond (not b) (1 + position_or_len p xs) 0) (fails 0 (omega arith)))
  where
    more : (i n : ℕ) → i ≡ n → suc i ≡ 1 + n
    more i n e = omega arith

pub got_at : (xs : List ℕ) (i x : ℕ) → slice_get xs i ≡ Some x → get_or xs i 0 ≡ x
got_at [] i x e = absurd (cc)
got_at (y ∷ xs) zero x e = same y x e
  where
    same : (y x : ℕ) → Some y ≡ Some x → y ≡ x
    same y x e = cc
got_at (y ∷ xs) (suc i) x e = got_at xs i x e

-- one place more that isn't touched
pub untouched_more : (p : ℕ → Bool) (xs : List ℕ) (i x : ℕ) → ((j : ℕ) → j < i → p (get_or xs j 0) ≡ false) → slice_get xs i ≡ Some x → p x ≡ false
    → (j : ℕ) → j < i + 1 → p (get_or xs j 0) ≡ false
untouched_more p xs i x before found fails j lt =
    elim (cases_lt j i) [
      | inl l ↦ before j l
      | inr g ↦ (let same : j ≡ i = omega arith in ap (λ k. p (get_or xs k 0)) same ∙ (ap p (got_at xs i x found) ∙ fails))
    ]
