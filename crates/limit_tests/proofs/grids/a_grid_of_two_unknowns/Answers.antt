use Rattle.std.proofs.Common.{rules, ◌≡◌, ◌==◌, ℕ, ◌^◌, Bool, true, false, if◌then◌else◌, List, [], ◌∷◌, length, ℤ, pos, ◌+ℤ◌, ◌*ℤ◌, ◌≤ℤ◌, sym, ◌∙◌, subst, arith}
use Rattle.std.specs.Int.{int_max}
use Rattle.std.proofs.lemmas.Int.{ints, clamps}
use Rattle.geo_model.specs.Row.{unit_at}
use Rattle.geo_model.specs.Energy.{full_energy}
use Rattle.geo_model.specs.Candidate.{CandidateOf}
use Rattle.geo_model.specs.Limit.{SquareOf, IsLoad, load}
use Rattle.limit_forms.proofs.GridReads.{length-grid_of}
use Rattle.limit_tests.proofs.grids.a_grid_of_two_unknowns.Goals as goal

pub unknown-requires : goal.unknown-requires
unknown-requires g c =
    let n = length-grid_of c.in_ok-network.network (pos 1000000) c.as_slice-limit.result.now c.in_ok-grid.grid c.in_ok-grid.ensures in
    let two = c.in_ok-network.ensures.unknowns in
    omega arith

one : SquareOf
one = record { beta = pos 1; entries = (1, pos 1) ∷ [] }

few_units : (b : Bool) → (pos 1 *ℤ ((pos 1 *ℤ (if b then pos 1 else pos 0) +ℤ pos 0) *ℤ (pos 1 *ℤ (if b then pos 1 else pos 0) +ℤ pos 0)) +ℤ pos 0) ≤ℤ pos (2 ^ 50)
few_units true = omega (arith, ints)
few_units false = omega (arith, ints)

below_greater : (x y z : ℤ) → z ≤ℤ x → z ≤ℤ int_max x y
below_greater x y z h = omega (arith, ints, clamps)

limit_of : (n : ℕ) (candidates : List CandidateOf) → n ≡ 2 → IsLoad n candidates (pos 1000000) (one ∷ [])
unfolding one
limit_of n candidates two = record {
  alpha_low = omega (arith, ints);
  alpha_high = omega (arith, ints);
  beta_low = search rules;
  beta_high = search rules;
  sparse = search rules;
  columns = search rules;
  total = search rules;
  diagonal = λ i lt. below_greater (pos (2 ^ 50)) (pos (2 ^ 12) *ℤ (pos 1000000 *ℤ full_energy candidates (unit_at i))) (load (one ∷ []) (unit_at i)) (few_units (1 == i));
}

pub put_row-requires-clause-limit : goal.put_row-requires-clause-limit
unfolding one
put_row-requires-clause-limit g c =
    let is : c.as_slice-limit.result.now ≡ one ∷ [] = c.as_slice-limit.ensures.value ∙ c.in_ok-squares.ensures in
    subst (λ (squares : List SquareOf). IsLoad (length c.in_ok-network.network.unknowns) c.in_ok-network.network.candidates (pos 1000000) squares) (sym is)
    (limit_of (length c.in_ok-network.network.unknowns) c.in_ok-network.network.candidates c.in_ok-network.ensures.unknowns)
