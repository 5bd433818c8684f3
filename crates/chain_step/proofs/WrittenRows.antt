-- Triangles that are written row by row.
use Rattle.std.proofs.Common.{◌≡◌, ℕ, zero, suc, ◌+◌, ◌-◌, ◌<◌, List, [], ◌∷◌, length, sym, ◌∙◌, refl, ap, ap₂, subst, arith, inl, inr, ℤ}
use Rattle.std.specs.Prelude.{slice_set}
use Rattle.std.proofs.lemmas.Bool.{cases_lt}
use Rattle.std.proofs.lemmas.List.{get_or-set_same, get_or-set_other}
use Rattle.whole_algebra.specs.Grid.{row_at}
use Rattle.lent_parts.specs.Triangle.{IsTri, tri_row, refilled}
use Rattle.lent_parts.proofs.Triangles.{refilled_whole, length-IsTri, length-tri_row, IsTri-slice_set}

pub row_kept : (tri : List (List ℤ)) (w : List ℤ) (k j : ℕ) → (j ≡ k → ⊥) → tri_row (slice_set tri k w) j ≡ tri_row tri j
row_kept tri w k j apart = get_or-set_other tri k j w [] apart

pub row_written : (n : ℕ) (tri : List (List ℤ)) (w : List ℤ) (k : ℕ) → IsTri n tri → k < n → length w ≡ n - k
    → tri_row (slice_set tri k (refilled (tri_row tri k) w)) k ≡ w
row_written n tri w k t lt long =
    let filled : refilled (tri_row tri k) w ≡ w = refilled_whole (tri_row tri k) w (long ∙ sym (length-tri_row n tri k t lt)) in
    ap (λ r. tri_row (slice_set tri k r) k) filled ∙ get_or-set_same tri k w [] (let f = length-IsTri n tri t in omega arith)

pub row_put : (n : ℕ) (tri : List (List ℤ)) (f : ℕ → List ℤ) (w : List ℤ) (k : ℕ) → IsTri n tri → k < n → length w ≡ n - k
    → ((j : ℕ) → j < k → tri_row tri j ≡ f j) → w ≡ f k
    → (j : ℕ) → j < k + 1 → tri_row (slice_set tri k (refilled (tri_row tri k) w)) j ≡ f j
row_put n tri f w k t lt long before here j lj =
    elim (cases_lt j k) [
      | inl l ↦ row_kept tri (refilled (tri_row tri k) w) k j (λ e. absurd (omega arith)) ∙ before j l
      | inr g ↦ (let same : j ≡ k = omega arith in
          ap (tri_row (slice_set tri k (refilled (tri_row tri k) w))) same ∙ row_written n tri w k t lt long ∙ here ∙ ap f (sym same))
    ]

pub row_shape : (n : ℕ) (tri : List (List ℤ)) (w : List ℤ) (k : ℕ) → IsTri n tri → k < n → length w ≡ n - k → IsTri n (slice_set tri k (refilled (tri_row tri k) w))
row_shape n tri w k t lt long =
    let filled : refilled (tri_row tri k) w ≡ w = refilled_whole (tri_row tri k) w (long ∙ sym (length-tri_row n tri k t lt)) in
    subst (λ r. IsTri n (slice_set tri k r)) (sym filled) (IsTri-slice_set n tri k w t long)

-- triangles with the same rows are the same
pub rows_all : (n : ℕ) (tri whole : List (List ℤ)) → IsTri n tri → IsTri n whole → ((j : ℕ) → j < n → tri_row tri j ≡ row_at whole j) → tri ≡ whole
rows_all zero [] [] t u h = refl
rows_all zero [] (s ∷ whole) t u h = absurd u
rows_all zero (r ∷ tri) whole t u h = absurd t
rows_all (suc n) [] whole t u h = absurd t
rows_all (suc n) (r ∷ tri) [] t u h = absurd u
rows_all (suc n) (r ∷ tri) (s ∷ whole) t u h = ap₂ ◌∷◌ (h 0 (omega arith)) (rows_all n tri whole t.1 u.1 (λ j lt. h (suc j) (omega arith)))
