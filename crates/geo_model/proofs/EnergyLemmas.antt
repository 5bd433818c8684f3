use Rattle.std.proofs.lemmas.Bool.{false≢true}
use Rattle.std.proofs.Common.{◌≡◌, ℕ, ℤ, pos, ◌*ℤ◌, ◌≤ℤ◌, if◌then◌else◌, Bool, true, false, IsTrue, List, [], ◌∷◌, length, arith, refl, subst}
use Rattle.std.specs.Prelude.{All}
use Rattle.std.proofs.lemmas.List.Elements.{All-head, All-tail}
use Rattle.std.proofs.lemmas.Int.{ints}
use Rattle.whole_algebra.specs.Sums.{int_sum_by}
use Rattle.whole_algebra.proofs.Order.{le_refl, le_trans, add_nonneg, add_le_add, mul_nonneg, mul_le_mul, square_nonneg}
use Rattle.geo_model.specs.Row.{Displaced, RowOf, IsRow, form_at, row_energy}
use Rattle.geo_model.specs.Candidate.{CandidateOf, IsCandidate, candidate_energy}
use Rattle.geo_model.specs.Energy.{energy, IsWithin}
use Rattle.geo_model.specs.Limit.{LimitOf, load}
use Rattle.geo_model.specs.Network.{NetworkOf}
use Rattle.geo_model.specs.Meeting.{MeetsLimit, Breaks}

-- Laws of the energy of a displacement: it is not negative, and it grows with the plan.

-- a row adds no negative energy
pub row_energy-nonneg : (row : RowOf) (x : Displaced) → IsRow row → pos 0 ≤ℤ row_energy row x
row_energy-nonneg row x bounds =
    let weight : pos 0 ≤ℤ row.weight = le_trans (pos 0) (pos 1) row.weight (omega (arith, ints)) bounds.weight_low in
    mul_nonneg row.weight (form_at row.entries x *ℤ form_at row.entries x) weight (square_nonneg (form_at row.entries x))

-- rows add no negative energy
pub rows_energy-nonneg : (rows : List RowOf) (x : Displaced) → All IsRow rows → pos 0 ≤ℤ int_sum_by (λ row. row_energy row x) rows
rows_energy-nonneg [] x all = le_refl (pos 0)
rows_energy-nonneg (row ∷ rest) x all =
    add_nonneg (row_energy row x) (int_sum_by (λ r. row_energy r x) rest)
    (row_energy-nonneg row x (All-head IsRow row rest all))
    (rows_energy-nonneg rest x (All-tail IsRow row rest all))

-- a candidate adds no negative energy
pub candidate_energy-nonneg : (unknowns : ℕ) (candidate : CandidateOf) (x : Displaced) → IsCandidate unknowns candidate → pos 0 ≤ℤ candidate_energy candidate x
candidate_energy-nonneg unknowns candidate x bounds = rows_energy-nonneg candidate.rows x bounds.rows

-- what a candidate adds where it is chosen
abbrev part_energy : Bool → CandidateOf → Displaced → ℤ
part_energy chosen candidate x = if chosen then candidate_energy candidate x else pos 0

part_energy-grows : (few more : Bool) (candidate : CandidateOf) (x : Displaced) → pos 0 ≤ℤ candidate_energy candidate x → (IsTrue few → IsTrue more) → part_energy few candidate x ≤ℤ part_energy more candidate x
part_energy-grows false false candidate x nonneg within = le_refl (pos 0)
part_energy-grows false true candidate x nonneg within = nonneg
part_energy-grows true true candidate x nonneg within = le_refl (candidate_energy candidate x)
part_energy-grows true false candidate x nonneg within = absurd (false≢true (within refl))

-- the energy grows with the plan
pub energy-grows : (unknowns : ℕ) (candidates : List CandidateOf) (small large : List Bool) (x : Displaced) → All (IsCandidate unknowns) candidates → IsWithin small large → energy candidates small x ≤ℤ energy candidates large x
energy-grows unknowns [] small large x all within = le_refl (pos 0)
energy-grows unknowns (candidate ∷ rest) [] [] x all within = le_refl (pos 0)
energy-grows unknowns (candidate ∷ rest) [] (more ∷ large) x all within = absurd within
energy-grows unknowns (candidate ∷ rest) (few ∷ small) [] x all within = absurd within
energy-grows unknowns (candidate ∷ rest) (few ∷ small) (more ∷ large) x all within =
    add_le_add (part_energy few candidate x) (part_energy more candidate x) (energy rest small x) (energy rest large x)
    (part_energy-grows few more candidate x (candidate_energy-nonneg unknowns candidate x (All-head (IsCandidate unknowns) candidate rest all)) within.0)
    (energy-grows unknowns rest small large x (All-tail (IsCandidate unknowns) candidate rest all) within.1)

-- a limit that a plan meets is met by every larger plan
pub MeetsLimit-grows : (network : NetworkOf) (limit : LimitOf) (small large : List Bool) → All (IsCandidate (length network.unknowns)) network.candidates → pos 1 ≤ℤ limit.alpha → IsWithin small large → MeetsLimit network small limit → MeetsLimit network large limit
MeetsLimit-grows network limit small large all alpha within meets x =
    le_trans (load limit.squares x) (limit.alpha *ℤ energy network.candidates small x) (limit.alpha *ℤ energy network.candidates large x) (meets x)
    (mul_le_mul limit.alpha (energy network.candidates small x) (energy network.candidates large x)
    (le_trans (pos 0) (pos 1) limit.alpha (omega (arith, ints)) alpha)
    (energy-grows (length network.unknowns) network.candidates small large x all within))

-- a displacement with the same entries breaks the same limits
pub Breaks-same : (network : NetworkOf) (plan : List Bool) (limit : LimitOf) (x y : Displaced) → ((i : ℕ) → x i ≡ y i) → Breaks network plan limit x → Breaks network plan limit y
Breaks-same network plan limit x y same breaks = subst (Breaks network plan limit) (λ i k. same k i) breaks
