-- Sums one element further, and their sizes.
use Rattle.std.proofs.Common.{◌≡◌, ◌≢◌, ◌==◌, ℕ, ◌+◌, ◌-◌, ◌<◌, ◌≤◌, inl, inr, ℤ, pos, ◌+ℤ◌, ◌*ℤ◌, if◌then◌else◌, Bool, true, false, List, [], ◌∷◌, length, take, set, get_or, refl, sym, ◌∙◌, ap, subst, arith, eqb-true, eq-eqb, replicate}
use Rattle.std.specs.Prelude.{unsigned_abs}
use Rattle.std.proofs.Math.ListN.{length-set}
use Rattle.std.proofs.lemmas.List.{get_or-set_same, get_or-set_other, length-replicate}
use Rattle.std.proofs.lemmas.List.Sums.{sum_by-take-le}
use Rattle.std.proofs.lemmas.Bool.{cases_eq}
use Rattle.whole_algebra.specs.Matrices.{at}
use Rattle.whole_algebra.proofs.Ring.{mul_one}
use Rattle.whole_algebra.proofs.Normal.{ring, x0, x1, x2, x3, lit, ◌⊕◌, ◌⊗◌}
use Rattle.whole_algebra.proofs.SumLaws.{int_sum_by-more}
use Rattle.whole_algebra.proofs.Written.{at-zeros}
use Rattle.geo_model.specs.Row.{Entries, unit_at, total_size}
use Rattle.geo_model.proofs.SizeLemmas.{form_at-size, unit_at-size}
use Rattle.normal_matrix.specs.Entries.{coefficient}

-- ---- units
pub unit_at-same : (i j : ℕ) → j ≡ i → unit_at i j ≡ pos 1
unit_at-same i j e = ap (λ (b : Bool). if b then pos 1 else pos 0) (eq-eqb j i e)

pub unit_at-other : (i j : ℕ) → j ≢ i → unit_at i j ≡ pos 0
unit_at-other i j apart = by (j == i) (λ e. apart (eqb-true j i e))
  where
    by : (b : Bool) → (b ≡ true → ⊥) → (if b then pos 1 else pos 0) ≡ pos 0
    by true never = absurd (never refl)
    by false never = refl

-- the list that moves one unknown by 1 is that displacement
pub unit_at-list : (n u : ℕ) → u < n → (i : ℕ) → unit_at u i ≡ at (set (replicate n (pos 0)) u (pos 1)) i
unit_at-list n u inside i =
    elim (cases_eq i u) [
      | inl here ↦
          unit_at-same u i here ∙ sym (ap (λ j. at (set (replicate n (pos 0)) u (pos 1)) j) here ∙ get_or-set_same (replicate n (pos 0)) u (pos 1) (pos 0) (omega (arith, length-replicate n (pos 0))))
      | inr apart ↦ unit_at-other u i apart ∙ sym (get_or-set_other (replicate n (pos 0)) u i (pos 1) (pos 0) apart ∙ at-zeros n i)
    ]

-- ---- sizes
-- a coefficient at an unknown is at most all sizes together
pub coefficient-size : (entries : Entries) (i : ℕ) → unsigned_abs (coefficient entries i) ≤ total_size entries
coefficient-size entries i = omega (arith, form_at-size entries (unit_at i) 1 (unit_at-size i))

pub coefficient-take-size : (entries : Entries) (q i : ℕ) → unsigned_abs (coefficient (take q entries) i) ≤ total_size entries
coefficient-take-size entries q i =
    omega (arith, coefficient-size (take q entries) i, sum_by-take-le (λ (entry : ℕ × ℤ). unsigned_abs entry.1) entries q)

-- ---- one entry added in a line
coefficient-more : (entries : Entries) (q i : ℕ) (d : ℕ × ℤ) → q < length entries
    → coefficient (take (q + 1) entries) i ≡ coefficient (take q entries) i +ℤ (get_or entries q d).1 *ℤ unit_at i (get_or entries q d).0
coefficient-more entries q i d inside = int_sum_by-more (λ (entry : ℕ × ℤ). entry.1 *ℤ unit_at i entry.0) entries q d inside

pub coefficient-more_here : (entries : Entries) (q i : ℕ) (d : ℕ × ℤ) → q < length entries → (get_or entries q d).0 ≡ i
    → coefficient (take (q + 1) entries) i ≡ coefficient (take q entries) i +ℤ (get_or entries q d).1
coefficient-more_here entries q i d inside here =
    coefficient-more entries q i d inside
    ∙ ap (λ t. coefficient (take q entries) i +ℤ (get_or entries q d).1 *ℤ t) (unit_at-same i (get_or entries q d).0 here)
    ∙ ap (λ t. coefficient (take q entries) i +ℤ t) (mul_one (get_or entries q d).1)

pub coefficient-more_elsewhere : (entries : Entries) (q i : ℕ) (d : ℕ × ℤ) → q < length entries → (get_or entries q d).0 ≢ i
    → coefficient (take (q + 1) entries) i ≡ coefficient (take q entries) i
coefficient-more_elsewhere entries q i d inside apart =
    coefficient-more entries q i d inside
    ∙ ap (λ t. coefficient (take q entries) i +ℤ (get_or entries q d).1 *ℤ t) (unit_at-other i (get_or entries q d).0 apart)
    ∙ ring (x0 ⊕ x1 ⊗ lit 0) x0 (coefficient (take q entries) i ∷ (get_or entries q d).1 ∷ []) refl

line_step_here : (old line : List ℤ) (first q : ℕ) (factor : ℤ) (entries : Entries) (d : ℕ × ℤ) → q < length entries → first ≤ (get_or entries q d).0
    → ((k : ℕ) → k < length line → at line k ≡ at old k +ℤ factor *ℤ coefficient (take q entries) (first + k))
    → (k : ℕ) → k < length line
    → at (set line ((get_or entries q d).0 - first) (at line ((get_or entries q d).0 - first) +ℤ factor *ℤ (get_or entries q d).1)) k
    ≡ at old k +ℤ factor *ℤ coefficient (take (q + 1) entries) (first + k)
line_step_here old line first q factor entries d inside from so_far k lt =
    elim (cases_eq k ((get_or entries q d).0 - first)) [
      | inl here ↦
          subst (λ p. at (set line p (at line p +ℤ factor *ℤ (get_or entries q d).1)) k ≡ at old k +ℤ factor *ℤ coefficient (take (q + 1) entries) (first + k)) here
          (get_or-set_same line k (at line k +ℤ factor *ℤ (get_or entries q d).1) (pos 0) lt
          ∙ ap (λ t. t +ℤ factor *ℤ (get_or entries q d).1) (so_far k lt)
          ∙ ring ((x0 ⊕ x1 ⊗ x2) ⊕ x1 ⊗ x3) (x0 ⊕ x1 ⊗ (x2 ⊕ x3)) (at old k ∷ factor ∷ coefficient (take q entries) (first + k) ∷ (get_or entries q d).1 ∷ []) refl
          ∙ ap (λ t. at old k +ℤ factor *ℤ t) (sym (coefficient-more_here entries q (first + k) d inside (omega arith))))
      | inr apart ↦
          get_or-set_other line ((get_or entries q d).0 - first) k (at line ((get_or entries q d).0 - first) +ℤ factor *ℤ (get_or entries q d).1) (pos 0) apart
          ∙ so_far k lt
          ∙ ap (λ t. at old k +ℤ factor *ℤ t) (sym (coefficient-more_elsewhere entries q (first + k) d inside (elsewhere (get_or entries q d).0 first k from apart)))
    ]
  where
    elsewhere : (c first k : ℕ) → first ≤ c → k ≢ (c - first) → c ≢ (first + k)
    elsewhere c first k from apart e = apart (omega arith)

pub line_step : (old line : List ℤ) (first q : ℕ) (factor : ℤ) (entries : Entries) (d : ℕ × ℤ) → q < length entries → first ≤ (get_or entries q d).0
    → ((k : ℕ) → k < length line → at line k ≡ at old k +ℤ factor *ℤ coefficient (take q entries) (first + k))
    → (k : ℕ) → k < length (set line ((get_or entries q d).0 - first) (at line ((get_or entries q d).0 - first) +ℤ factor *ℤ (get_or entries q d).1))
    → at (set line ((get_or entries q d).0 - first) (at line ((get_or entries q d).0 - first) +ℤ factor *ℤ (get_or entries q d).1)) k
    ≡ at old k +ℤ factor *ℤ coefficient (take (q + 1) entries) (first + k)
line_step old line first q factor entries d inside from so_far k lt =
    line_step_here old line first q factor entries d inside from so_far k
    (omega (arith, length-set line ((get_or entries q d).0 - first) (at line ((get_or entries q d).0 - first) +ℤ factor *ℤ (get_or entries q d).1)))

pub line_kept : (old line : List ℤ) (first q : ℕ) (factor : ℤ) (entries : Entries) (d : ℕ × ℤ) → q < length entries → (get_or entries q d).0 < first
    → ((k : ℕ) → k < length line → at line k ≡ at old k +ℤ factor *ℤ coefficient (take q entries) (first + k))
    → (k : ℕ) → k < length line → at line k ≡ at old k +ℤ factor *ℤ coefficient (take (q + 1) entries) (first + k)
line_kept old line first q factor entries d inside before so_far k lt =
    so_far k lt
    ∙ ap (λ t. at old k +ℤ factor *ℤ t) (sym (coefficient-more_elsewhere entries q (first + k) d inside (before_it (get_or entries q d).0 first k before)))
  where
    before_it : (c first k : ℕ) → c < first → c ≢ (first + k)
    before_it c first k before e = omega arith
