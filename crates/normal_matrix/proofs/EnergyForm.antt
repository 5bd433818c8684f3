-- The energy of a displacement is the quadratic form of the normal matrix.
use Rattle.std.proofs.Common.{◌≡◌, ◌==◌, ℕ, ◌<◌, ◌+◌, ℤ, pos, ◌+ℤ◌, ◌*ℤ◌, if◌then◌else◌, Bool, true, false, List, [], ◌∷◌, map, refl, sym, ◌∙◌, ap, ap₂, arith, eqb-true, zero-add}
use Rattle.std.specs.Prelude.{All, count_by}
use Rattle.std.proofs.lemmas.List.Elements.{All-head, All-tail}
use Rattle.std.proofs.lemmas.Int.{ints}
use Rattle.std.proofs.lemmas.List.Sums.{sum_by-cons}
use Rattle.whole_algebra.specs.Sums.{int_sum_by, dot}
use Rattle.whole_algebra.specs.Matrices.{quad}
use Rattle.whole_algebra.specs.Grid.{packed}
use Rattle.whole_algebra.proofs.Ring.{zero_mul, one_mul}
use Rattle.whole_algebra.proofs.GridLaws.{quad-packed_sum, quad-packed_rows, packed-same, dot-zeros, quad-packed_zero}
use Rattle.whole_algebra.proofs.Normal.{ring, x0, x1, x2, x3, x4, x5, lit, ◌⊕◌, ◌⊗◌}
use Rattle.geo_model.specs.Row.{Displaced, Entries, RowOf, unit_at, form_at, row_energy}
use Rattle.geo_model.specs.Candidate.{CandidateOf, IsCandidate, candidate_energy}
use Rattle.geo_model.specs.Energy.{energy}
use Rattle.normal_matrix.specs.Entries.{coefficient, candidate_entry, normal_entry, HasEachOnce}

one_more : (b : Bool) (n : ℕ) (here there rest : ℤ) → (b ≡ true → here ≡ there) → rest ≡ pos n *ℤ there
    → (if b then pos 1 else pos 0) *ℤ here +ℤ rest ≡ pos ((if b then 1 else 0) + n) *ℤ there
one_more true n here there rest same e =
    let h = same refl in
    let f : pos (1 + n) *ℤ there ≡ there +ℤ pos n *ℤ there = ring ((lit 1 ⊕ x0) ⊗ x1) (x1 ⊕ x0 ⊗ x1) (pos n ∷ there ∷ []) refl in
    omega (arith, ints)
one_more false n here there rest same e = let f : pos (0 + n) ≡ pos n = ap pos (zero-add n) in rw f (omega (arith, ints))

-- the coefficients of one unknown, at a displacement over a list of unknowns
unit_dot : (c : ℕ) (x : Displaced) (us : List ℕ) → dot (map (λ u. unit_at u c) us) (map x us) ≡ pos (count_by (λ u. c == u) us) *ℤ x c
unit_dot c x [] = sym (zero_mul (x c))
unit_dot c x (u ∷ us) =
    one_more (c == u) (count_by (λ v. c == v) us) (x u) (x c) (dot (map (λ v. unit_at v c) us) (map x us))
    (λ e. ap x (sym (eqb-true c u e))) (unit_dot c x us)
    ∙ ap (λ k. pos k *ℤ x c) (sym (sum_by-cons (λ v. if c == v then 1 else 0) u us))

sum_dot : (a : ℤ) (g f : ℕ → ℤ) (us : List ℕ) (y : List ℤ) → dot (map (λ u. a *ℤ g u +ℤ f u) us) y ≡ a *ℤ dot (map g us) y +ℤ dot (map f us) y
sum_dot a g f [] y = ring (lit 0) (x0 ⊗ lit 0 ⊕ lit 0) (a ∷ []) refl
sum_dot a g f (u ∷ us) [] = ring (lit 0) (x0 ⊗ lit 0 ⊕ lit 0) (a ∷ []) refl
sum_dot a g f (u ∷ us) (y ∷ ys) =
    ap (λ t. (a *ℤ g u +ℤ f u) *ℤ y +ℤ t) (sum_dot a g f us ys)
    ∙ ring ((x0 ⊗ x1 ⊕ x2) ⊗ x3 ⊕ (x0 ⊗ x4 ⊕ x5)) (x0 ⊗ (x1 ⊗ x3 ⊕ x4) ⊕ (x2 ⊗ x3 ⊕ x5)) (a ∷ g u ∷ f u ∷ y ∷ dot (map g us) ys ∷ dot (map f us) ys ∷ []) refl

-- the value of a linear form is the sum of its coefficients times the displacement, over the unknowns
pub form_at-dot : (n : ℕ) (entries : Entries) (us : List ℕ) (x : Displaced) → All (λ entry. entry.0 < n) entries → HasEachOnce n us
    → dot (map (coefficient entries) us) (map x us) ≡ form_at entries x
form_at-dot n [] us x below once = dot-zeros us (map x us)
form_at-dot n (e ∷ rest) us x below once =
    sum_dot e.1 (λ u. unit_at u e.0) (coefficient rest) us (map x us)
    ∙ ap₂ (λ s t. e.1 *ℤ s +ℤ t)
    (unit_dot e.0 x us ∙ ap (λ k. pos k *ℤ x e.0) (once e.0 (All-head (λ entry. entry.0 < n) e rest below)) ∙ one_mul (x e.0))
    (form_at-dot n rest us x (All-tail (λ entry. entry.0 < n) e rest below) once)

rows_energy : (n : ℕ) (rows : List RowOf) (us : List ℕ) (x : Displaced) → All (λ row. All (λ entry. entry.0 < n) row.entries) rows → HasEachOnce n us
    → int_sum_by (λ row. row.weight *ℤ (dot (map (coefficient row.entries) us) (map x us) *ℤ dot (map (coefficient row.entries) us) (map x us))) rows
    ≡ int_sum_by (λ row. row_energy row x) rows
rows_energy n [] us x below once = refl
rows_energy n (row ∷ rest) us x below once =
    let form = form_at-dot n row.entries us x (All-head (λ (r : RowOf). All (λ (entry : ℕ × ℤ). entry.0 < n) r.entries) row rest below) once in
    ap₂ (λ s t. s +ℤ t) (ap (λ z. row.weight *ℤ (z *ℤ z)) form)
    (rows_energy n rest us x (All-tail (λ (r : RowOf). All (λ (entry : ℕ × ℤ). entry.0 < n) r.entries) row rest below) once)

candidate_quad : (n : ℕ) (candidate : CandidateOf) (us : List ℕ) (x : Displaced) → IsCandidate n candidate → HasEachOnce n us
    → quad (packed (candidate_entry candidate) us) (map x us) ≡ candidate_energy candidate x
candidate_quad n candidate us x bounds once =
    quad-packed_rows (λ (row : RowOf). row.weight) (λ (row : RowOf). coefficient row.entries) candidate.rows us (map x us)
    ∙ rows_energy n candidate.rows us x bounds.columns once

sum_quad : (f g : ℕ → ℕ → ℤ) (us : List ℕ) (y : List ℤ) → quad (packed (λ i j. f i j +ℤ g i j) us) y ≡ quad (packed f us) y +ℤ quad (packed g us) y
sum_quad f g us y =
    ap (λ m. quad m y)
    (packed-same (λ i j. f i j +ℤ g i j) (λ i j. f i j +ℤ pos 1 *ℤ g i j) us (λ i j. ring (x0 ⊕ x1) (x0 ⊕ lit 1 ⊗ x1) (f i j ∷ g i j ∷ []) refl))
    ∙ quad-packed_sum (pos 1) f g us y
    ∙ ap (λ t. quad (packed f us) y +ℤ t) (one_mul (quad (packed g us) y))

part_quad : (n : ℕ) (chosen : Bool) (candidate : CandidateOf) (us : List ℕ) (x : Displaced) → IsCandidate n candidate → HasEachOnce n us
    → quad (packed (λ i j. if chosen then candidate_entry candidate i j else pos 0) us) (map x us) ≡ (if chosen then candidate_energy candidate x else pos 0)
part_quad n true candidate us x bounds once = candidate_quad n candidate us x bounds once
part_quad n false candidate us x bounds once = quad-packed_zero us (map x us)

pub energy_is_quad : (n : ℕ) (candidates : List CandidateOf) (plan : List Bool) (unknowns : List ℕ) (x : Displaced)
    → All (IsCandidate n) candidates → HasEachOnce n unknowns
    → energy candidates plan x ≡ quad (packed (normal_entry candidates plan) unknowns) (map x unknowns)
energy_is_quad n [] plan us x all once = sym (quad-packed_zero us (map x us))
energy_is_quad n (candidate ∷ rest) [] us x all once = sym (quad-packed_zero us (map x us))
energy_is_quad n (candidate ∷ rest) (chosen ∷ plan) us x all once =
    sym (
    sum_quad (λ i j. if chosen then candidate_entry candidate i j else pos 0) (normal_entry rest plan) us (map x us)
    ∙ ap₂ (λ s t. s +ℤ t) (part_quad n chosen candidate us x (All-head (IsCandidate n) candidate rest all) once)
    (sym (energy_is_quad n rest plan us x (All-tail (IsCandidate n) candidate rest all) once))
    )
