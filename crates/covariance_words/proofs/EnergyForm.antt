-- The energy of a displacement is the form of the plan's normal matrix, by its entries.
use Rattle.std.proofs.Common.{◌≡◌, ℕ, ◌<◌, ℤ, pos, ◌+ℤ◌, ◌*ℤ◌, ◌≤ℤ◌, if◌then◌else◌, Bool, true, false, List, [], ◌∷◌, refl, sym, ◌∙◌, ap, ap₂, subst}
use Rattle.std.specs.Prelude.{All}
use Rattle.std.proofs.lemmas.List.Elements.{All-head, All-tail}
use Rattle.whole_algebra.specs.Sums.{int_sum_by}
use Rattle.whole_algebra.proofs.Ring.{mul_zero}
use Rattle.whole_algebra.proofs.Order.{le_refl, add_nonneg}
use Rattle.whole_algebra.proofs.Normal.{ring, x0, x1, x2, lit, ◌⊕◌, ◌⊗◌}
use Rattle.covariance_law.specs.Vectors.{Vector, Matrix, inner, applied, form}
use Rattle.covariance_law.specs.Covariance.{IsNormalMatrix}
use Rattle.covariance_law.proofs.Sums.{vector_sum-zero, vector_sum-same, inner_comm, inner-same, inner-scale, inner-linear, inner-unit}
use Rattle.geo_model.specs.Row.{Displaced, Entries, RowOf, unit_at, form_at, row_energy}
use Rattle.geo_model.specs.Candidate.{CandidateOf, IsCandidate, candidate_energy}
use Rattle.geo_model.specs.Energy.{energy}
use Rattle.geo_model.proofs.EnergyLemmas.{candidate_energy-nonneg}
use Rattle.normal_matrix.specs.Entries.{coefficient, row_entry, candidate_entry, normal_entry}
use Rattle.normal_matrix.proofs.PlanSteps.{normal_entry-symmetric}

-- ---- sums of vectors and of matrices
inner-zero : (n : ℕ) (x : Vector) → inner n x (λ i. pos 0) ≡ pos 0
inner-zero n x = vector_sum-same n (λ i. x i *ℤ pos 0) (λ i. pos 0) (λ i lt. mul_zero (x i)) ∙ vector_sum-zero n

inner-plus : (n : ℕ) (x a b : Vector) → inner n x (λ i. a i +ℤ b i) ≡ inner n x a +ℤ inner n x b
inner-plus n x a b =
    inner-same n x (λ i. a i +ℤ b i) (λ i. pos 1 *ℤ a i +ℤ pos 1 *ℤ b i) (λ i lt. ring (x0 ⊕ x1) (lit 1 ⊗ x0 ⊕ lit 1 ⊗ x1) (a i ∷ b i ∷ []) refl)
    ∙ inner-linear n (pos 1) (pos 1) x a b
    ∙ ring (lit 1 ⊗ x0 ⊕ lit 1 ⊗ x1) (x0 ⊕ x1) (inner n x a ∷ inner n x b ∷ []) refl

inner-plus_left : (n : ℕ) (a b x : Vector) → inner n (λ i. a i +ℤ b i) x ≡ inner n a x +ℤ inner n b x
inner-plus_left n a b x =
    inner_comm n (λ i. a i +ℤ b i) x ∙ inner-plus n x a b ∙ ap₂ (λ s t. s +ℤ t) (inner_comm n x a) (inner_comm n x b)

form-plus : (n : ℕ) (f g : Matrix) (x : Vector) → form n (λ i j. f i j +ℤ g i j) x ≡ form n f x +ℤ form n g x
form-plus n f g x =
    inner-same n x (applied n (λ i j. f i j +ℤ g i j) x) (λ i. applied n f x i +ℤ applied n g x i) (λ i lt. inner-plus_left n (f i) (g i) x)
    ∙ inner-plus n x (applied n f x) (applied n g x)

form-zero : (n : ℕ) (x : Vector) → form n (λ i j. pos 0) x ≡ pos 0
form-zero n x =
    inner-same n x (applied n (λ i j. pos 0) x) (λ i. pos 0) (λ i lt. inner_comm n (λ j. pos 0) x ∙ inner-zero n x) ∙ inner-zero n x

-- ---- rows
-- a linear form is the product of its coefficients with the displacement
pub form_at-inner : (n : ℕ) (entries : Entries) (x : Displaced) → All (λ entry. entry.0 < n) entries → inner n (coefficient entries) x ≡ form_at entries x
form_at-inner n [] x below = inner_comm n (λ i. pos 0) x ∙ inner-zero n x
form_at-inner n (e ∷ rest) x below =
    inner-plus_left n (λ i. e.1 *ℤ unit_at i e.0) (coefficient rest) x
    ∙ ap₂ (λ s t. s +ℤ t)
    (inner_comm n (λ i. e.1 *ℤ unit_at i e.0) x
    ∙ inner-scale n e.1 x (λ i. unit_at i e.0)
    ∙ ap (λ t. e.1 *ℤ t) (inner-unit n e.0 (pos 1) x (All-head (λ entry. entry.0 < n) e rest below) ∙ ring (lit 1 ⊗ x0) x0 (x e.0 ∷ []) refl))
    (form_at-inner n rest x (All-tail (λ entry. entry.0 < n) e rest below))

row-form : (n : ℕ) (row : RowOf) (x : Displaced) → All (λ entry. entry.0 < n) row.entries → form n (row_entry row) x ≡ row_energy row x
row-form n row x below =
    inner-same n x (applied n (row_entry row) x) (λ i. (row.weight *ℤ inner n a x) *ℤ a i)
    (λ i lt.
    inner_comm n (row_entry row i) x
    ∙ inner-same n x (row_entry row i) (λ j. (row.weight *ℤ a i) *ℤ a j) (λ j inside. ring (x0 ⊗ (x1 ⊗ x2)) (x0 ⊗ x1 ⊗ x2) (row.weight ∷ a i ∷ a j ∷ []) refl)
    ∙ inner-scale n (row.weight *ℤ a i) x a
    ∙ ap (λ t. row.weight *ℤ a i *ℤ t) (inner_comm n x a)
    ∙ ring (x0 ⊗ x1 ⊗ x2) (x0 ⊗ x2 ⊗ x1) (row.weight ∷ a i ∷ inner n a x ∷ []) refl)
    ∙ inner-scale n (row.weight *ℤ inner n a x) x a
    ∙ ap (λ t. row.weight *ℤ inner n a x *ℤ t) (inner_comm n x a)
    ∙ ring (x0 ⊗ x1 ⊗ x1) (x0 ⊗ (x1 ⊗ x1)) (row.weight ∷ inner n a x ∷ []) refl
    ∙ ap (λ t. row.weight *ℤ (t *ℤ t)) (form_at-inner n row.entries x below)
  where
    a : Vector
    a = coefficient row.entries

rows-form : (n : ℕ) (rows : List RowOf) (x : Displaced) → All (λ row. All (λ entry. entry.0 < n) row.entries) rows
    → form n (λ i j. int_sum_by (λ row. row_entry row i j) rows) x ≡ int_sum_by (λ row. row_energy row x) rows
rows-form n [] x below = form-zero n x
rows-form n (row ∷ rest) x below =
    form-plus n (row_entry row) (λ i j. int_sum_by (λ r. row_entry r i j) rest) x
    ∙ ap₂ (λ s t. s +ℤ t)
    (row-form n row x (All-head (λ (r : RowOf). All (λ (entry : ℕ × ℤ). entry.0 < n) r.entries) row rest below))
    (rows-form n rest x (All-tail (λ (r : RowOf). All (λ (entry : ℕ × ℤ). entry.0 < n) r.entries) row rest below))

part-form : (n : ℕ) (chosen : Bool) (candidate : CandidateOf) (x : Displaced) → IsCandidate n candidate
    → form n (λ i j. if chosen then candidate_entry candidate i j else pos 0) x ≡ (if chosen then candidate_energy candidate x else pos 0)
part-form n true candidate x bounds = rows-form n candidate.rows x bounds.columns
part-form n false candidate x bounds = form-zero n x

pub energy-form : (n : ℕ) (candidates : List CandidateOf) (plan : List Bool) (x : Displaced) → All (IsCandidate n) candidates
    → form n (normal_entry candidates plan) x ≡ energy candidates plan x
energy-form n [] plan x all = form-zero n x
energy-form n (candidate ∷ rest) [] x all = form-zero n x
energy-form n (candidate ∷ rest) (chosen ∷ plan) x all =
    form-plus n (λ i j. if chosen then candidate_entry candidate i j else pos 0) (normal_entry rest plan) x
    ∙ ap₂ (λ s t. s +ℤ t) (part-form n chosen candidate x (All-head (IsCandidate n) candidate rest all))
    (energy-form n rest plan x (All-tail (IsCandidate n) candidate rest all))

-- ---- so it is nowhere negative
part-nonneg : (n : ℕ) (chosen : Bool) (candidate : CandidateOf) (x : Displaced) → IsCandidate n candidate
    → pos 0 ≤ℤ (if chosen then candidate_energy candidate x else pos 0)
part-nonneg n true candidate x bounds = candidate_energy-nonneg n candidate x bounds
part-nonneg n false candidate x bounds = le_refl (pos 0)

energy-nonneg : (n : ℕ) (candidates : List CandidateOf) (plan : List Bool) (x : Displaced) → All (IsCandidate n) candidates → pos 0 ≤ℤ energy candidates plan x
energy-nonneg n [] plan x all = le_refl (pos 0)
energy-nonneg n (candidate ∷ rest) [] x all = le_refl (pos 0)
energy-nonneg n (candidate ∷ rest) (chosen ∷ plan) x all =
    add_nonneg (if chosen then candidate_energy candidate x else pos 0) (energy rest plan x)
    (part-nonneg n chosen candidate x (All-head (IsCandidate n) candidate rest all))
    (energy-nonneg n rest plan x (All-tail (IsCandidate n) candidate rest all))

pub normal-is : (n : ℕ) (candidates : List CandidateOf) (plan : List Bool) → All (IsCandidate n) candidates → IsNormalMatrix n (normal_entry candidates plan)
normal-is n candidates plan all = record {
  symmetric = λ i j inside within. normal_entry-symmetric candidates plan i j;
  nonnegative = λ x. subst (λ t. pos 0 ≤ℤ t) (sym (energy-form n candidates plan x all)) (energy-nonneg n candidates plan x all);
}
