-- The energy of a network's candidates as a sum, each term of which is at most the whole.
use Rattle.std.proofs.Common.{◌≡◌, ℕ, zero, suc, List, [], ◌∷◌, Some, length, map, refl, ap, arith, ℤ, pos, ◌+ℤ◌, ◌*ℤ◌, ◌≤ℤ◌, slice_get, true, replicate}
use Rattle.std.specs.Prelude.{All}
use Rattle.std.proofs.lemmas.Int.{ints}
use Rattle.std.proofs.lemmas.List.Elements.{All-cons, All-head, All-nil, All-tail}
use Rattle.whole_algebra.specs.Sums.{int_sum_by}
use Rattle.whole_algebra.proofs.Order.{le_refl, mul_nonneg, square_nonneg}
use Rattle.coefficient_round.specs.Coefficient.{weight_for}
use Rattle.geo_model.specs.declared.network.Unknown.{Unknown}
use Rattle.geo_model.specs.Row.{Displaced, form_at, row_energy}
use Rattle.geo_model.specs.Candidate.{CandidateOf, candidate_energy}
use Rattle.geo_model.specs.Energy.{energy, full_energy}
use Rattle.point_tables.specs.declared.record.PointRecord.{PointRecord}
use Rattle.candidate_tables.specs.declared.record.CandidateRecord.{CandidateRecord}
use Rattle.design_rows.specs.Equations.{Equation, equations_of}
use Rattle.design_rows.specs.Rows.{entries_of, row_of, rows_of}
use Rattle.net_build.specs.Build.{candidate_of}
use Rattle.geo_model.proofs.RowLoads.{sum-nonneg}

-- the energy under the plan of all candidates
pub energy-all : (candidates : List CandidateOf) (x : Displaced) → energy candidates (replicate (length candidates) true) x ≡ full_energy candidates x
energy-all [] x = refl
energy-all (candidate ∷ candidates) x = ap (λ (z : ℤ). candidate_energy candidate x +ℤ z) (energy-all candidates x)

-- ---- no energy is negative

weight-some : (u : ℕ) → pos 0 ≤ℤ weight_for u
unfolding weight_for
weight-some u = omega (arith, ints)

pub row-some : (unknowns : List Unknown) (equation : Equation) (x : Displaced) → pos 0 ≤ℤ row_energy (row_of unknowns equation) x
row-some unknowns equation x =
    mul_nonneg (weight_for equation.deviation) (form_at (entries_of unknowns equation.terms) x *ℤ form_at (entries_of unknowns equation.terms) x)
    (weight-some equation.deviation) (square_nonneg (form_at (entries_of unknowns equation.terms) x))

rows-some : (unknowns : List Unknown) (equations : List Equation) (x : Displaced) → pos 0 ≤ℤ int_sum_by (λ row. row_energy row x) (map (row_of unknowns) equations)
rows-some unknowns [] x = le_refl (pos 0)
rows-some unknowns (equation ∷ equations) x =
    plus (row_energy (row_of unknowns equation) x) (int_sum_by (λ row. row_energy row x) (map (row_of unknowns) equations))
    (row-some unknowns equation x) (rows-some unknowns equations x)
  where
    plus : (a b : ℤ) → pos 0 ≤ℤ a → pos 0 ≤ℤ b → pos 0 ≤ℤ (a +ℤ b)
    plus a b h k = omega (arith, ints)

candidate-some : (points : List PointRecord) (unknowns : List Unknown) (candidate : CandidateRecord) (x : Displaced) → pos 0 ≤ℤ candidate_energy (candidate_of points unknowns candidate) x
unfolding rows_of
candidate-some points unknowns candidate x = rows-some unknowns (equations_of points candidate) x

pub candidates-some : (points : List PointRecord) (unknowns : List Unknown) (candidates : List CandidateRecord) (x : Displaced)
    → All (λ candidate. pos 0 ≤ℤ candidate_energy candidate x) (map (candidate_of points unknowns) candidates)
candidates-some points unknowns [] x = All-nil (λ candidate. pos 0 ≤ℤ candidate_energy candidate x)
candidates-some points unknowns (candidate ∷ candidates) x =
    All-cons (λ candidate. pos 0 ≤ℤ candidate_energy candidate x) (candidate_of points unknowns candidate) (map (candidate_of points unknowns) candidates)
    (candidate-some points unknowns candidate x) (candidates-some points unknowns candidates x)

-- ---- members of a sum

-- a term is at most the sum
pub one-above : {X : Type 0} (f : X → ℤ) (xs : List X) (k : ℕ) (a : X) → All (λ x. pos 0 ≤ℤ f x) xs → slice_get xs k ≡ Some a → f a ≤ℤ int_sum_by f xs
one-above f [] k a some at = cc at
one-above f (x ∷ xs) zero a some at = here (f x) (f a) (int_sum_by f xs) (ap f (first at)) (sum-nonneg f xs (All-tail (λ y. pos 0 ≤ℤ f y) x xs some))
  where
    first : Some x ≡ Some a → x ≡ a
    first e = cc e

    here : (p q rest : ℤ) → p ≡ q → pos 0 ≤ℤ rest → q ≤ℤ (p +ℤ rest)
    here p q rest same more = omega (arith, ints)
one-above f (x ∷ xs) (suc k) a some at =
    later (f x) (f a) (int_sum_by f xs) (All-head (λ y. pos 0 ≤ℤ f y) x xs some) (one-above f xs k a (All-tail (λ y. pos 0 ≤ℤ f y) x xs some) at)
  where
    later : (p q rest : ℤ) → pos 0 ≤ℤ p → q ≤ℤ rest → q ≤ℤ (p +ℤ rest)
    later p q rest more within = omega (arith, ints)

-- so are a term and the next one together
pub two-above : {X : Type 0} (f : X → ℤ) (xs : List X) (k : ℕ) (a b : X) → All (λ x. pos 0 ≤ℤ f x) xs → slice_get xs k ≡ Some a → slice_get xs (suc k) ≡ Some b
    → (f a +ℤ f b) ≤ℤ int_sum_by f xs
two-above f [] k a b some at next = cc at
two-above f (x ∷ xs) zero a b some at next =
    here (f x) (f a) (f b) (int_sum_by f xs) (ap f (first at)) (one-above f xs zero b (All-tail (λ y. pos 0 ≤ℤ f y) x xs some) next)
  where
    first : Some x ≡ Some a → x ≡ a
    first e = cc e

    here : (p q r rest : ℤ) → p ≡ q → r ≤ℤ rest → (q +ℤ r) ≤ℤ (p +ℤ rest)
    here p q r rest same within = omega (arith, ints)
two-above f (x ∷ xs) (suc k) a b some at next =
    later (f x) (f a +ℤ f b) (int_sum_by f xs) (All-head (λ y. pos 0 ≤ℤ f y) x xs some) (two-above f xs k a b (All-tail (λ y. pos 0 ≤ℤ f y) x xs some) at next)
  where
    later : (p q rest : ℤ) → pos 0 ≤ℤ p → q ≤ℤ rest → q ≤ℤ (p +ℤ rest)
    later p q rest more within = omega (arith, ints)
