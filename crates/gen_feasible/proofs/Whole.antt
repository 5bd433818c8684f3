-- The whole energy of a generated network: that of the vectors, and that of all others.
use Rattle.std.proofs.Common.{◌≡◌, ◌<◌, ℕ, true, List, map, arith, ℤ, pos, ◌+ℤ◌, ◌*ℤ◌, ◌≤ℤ◌}
use Rattle.std.specs.List.{list_all}
use Rattle.std.proofs.lemmas.Int.{ints}
use Rattle.geo_model.specs.declared.network.Unknown.{Unknown}
use Rattle.geo_model.specs.Row.{Displaced}
use Rattle.geo_model.specs.Candidate.{candidate_energy}
use Rattle.geo_model.specs.Energy.{full_energy}
use Rattle.point_tables.specs.declared.record.PointRecord.{PointRecord}
use Rattle.candidate_tables.specs.declared.record.CandidateRecord.{CandidateRecord}
use Rattle.net_build.specs.Build.{candidate_of}
use Rattle.geo_model.proofs.RowLoads.{sum-nonneg}
use Rattle.gen_net.specs.Candidates.{first_fixed, second_fixed}
use Rattle.gen_records.specs.Records.{candidate_records, other_records, vector_record, vector_records}
use Rattle.gen_records.proofs.CountFacts.{drawn-below, rest-below}
use Rattle.gen_feasible.proofs.Borne.{vector-least}
use Rattle.gen_feasible.proofs.Motions.{IsStill, first-still, height_square, heights, heights-parts, is_of_new, plane_square, planes, planes-parts}
use Rattle.gen_feasible.proofs.Shares.{IsWhole}
use Rattle.gen_feasible.proofs.Sums.{candidates-some}

-- the energy of these records
abbrev pub energy_of : List PointRecord → List Unknown → List CandidateRecord → Displaced → ℤ
energy_of points unknowns candidates x = full_energy (map (candidate_of points unknowns) candidates) x

-- ---- the drawn ends of the vectors are fixed points

pub first-low : (seed place : ℕ) → first_fixed seed place < 4
first-low seed place = drawn-below seed place 4 (omega arith)

pub second-low : (seed place : ℕ) → second_fixed seed place < 4
second-low seed place = rest-below _ 4 (omega arith)

-- ---- the vectors

two_vectors : (p z v w : ℤ) → (pos 10000000000 *ℤ p +ℤ pos 4400000000 *ℤ z) ≤ℤ v → (pos 10000000000 *ℤ p +ℤ pos 4400000000 *ℤ z) ≤ℤ w
    → (pos 20000000000 *ℤ p +ℤ pos 8800000000 *ℤ z) ≤ℤ (v +ℤ w)
two_vectors p z v w h k = omega (arith, ints)

-- the energy of a point's two vectors is at least this
abbrev least : ℤ → ℤ → ℤ
least p z = pos 20000000000 *ℤ p +ℤ pos 8800000000 *ℤ z

-- the planes and heights of five points, and two vectors to each of them
record AreTen (p4 p5 p6 p7 p8 z4 z5 z6 z7 z8 v1 v2 v3 v4 v5 v6 v7 v8 v9 v10 : ℤ) : Type 0 where
  pub first : least p4 z4 ≤ℤ (v1 +ℤ v2)
  pub second : least p5 z5 ≤ℤ (v3 +ℤ v4)
  pub third : least p6 z6 ≤ℤ (v5 +ℤ v6)
  pub fourth : least p7 z7 ≤ℤ (v7 +ℤ v8)
  pub fifth : least p8 z8 ≤ℤ (v9 +ℤ v10)

ten : (p4 p5 p6 p7 p8 z4 z5 z6 z7 z8 v1 v2 v3 v4 v5 v6 v7 v8 v9 v10 others : ℤ) → AreTen p4 p5 p6 p7 p8 z4 z5 z6 z7 z8 v1 v2 v3 v4 v5 v6 v7 v8 v9 v10
    → (least (p4 +ℤ (p5 +ℤ (p6 +ℤ (p7 +ℤ p8)))) (z4 +ℤ (z5 +ℤ (z6 +ℤ (z7 +ℤ z8)))) +ℤ others)
    ≤ℤ (v1 +ℤ (v2 +ℤ (v3 +ℤ (v4 +ℤ (v5 +ℤ (v6 +ℤ (v7 +ℤ (v8 +ℤ (v9 +ℤ (v10 +ℤ others))))))))))
ten p4 p5 p6 p7 p8 z4 z5 z6 z7 z8 v1 v2 v3 v4 v5 v6 v7 v8 v9 v10 others are = omega (arith, ints)

pair-least : (points : List PointRecord) (unknowns : List Unknown) (x : Displaced) (seed price number a price' number' a' b : ℕ) → IsStill unknowns x a → IsStill unknowns x a'
    → least (plane_square unknowns x b) (height_square unknowns x b)
    ≤ℤ (candidate_energy (candidate_of points unknowns (vector_record seed price number a b)) x
    +ℤ candidate_energy (candidate_of points unknowns (vector_record seed price' number' a' b)) x)
pair-least points unknowns x seed price number a price' number' a' b still still' =
    two_vectors (plane_square unknowns x b) (height_square unknowns x b)
    (candidate_energy (candidate_of points unknowns (vector_record seed price number a b)) x)
    (candidate_energy (candidate_of points unknowns (vector_record seed price' number' a' b)) x)
    (vector-least points unknowns x seed price number a b still) (vector-least points unknowns x seed price' number' a' b still')

-- the whole energy at a displacement that leaves the fixed points where they are
pub generated-whole : (points : List PointRecord) (unknowns : List Unknown) (seed : ℕ) (x : Displaced) → list_all is_of_new unknowns ≡ true
    → IsWhole (planes unknowns x) (heights unknowns x) (energy_of points unknowns (other_records seed) x) (energy_of points unknowns (candidate_records seed) x)
unfolding candidate_records vector_records
generated-whole points unknowns seed x all =
    let e = λ (price number a b : ℕ). candidate_energy (candidate_of points unknowns (vector_record seed price number a b)) x in
    let still = λ (place : ℕ) (low : place < 4). first-still unknowns all x place low in
    let pairs = λ (price number first price' number' b : ℕ). pair-least points unknowns x seed price number (first_fixed seed first) price' number' (second_fixed seed first) b
    (still (first_fixed seed first) (first-low seed first)) (still (second_fixed seed first) (second-low seed first)) in
    record {
      planes_some = (planes-parts unknowns x).some;
      heights_some = (heights-parts unknowns x).some;
      others_some = sum-nonneg (λ candidate. candidate_energy candidate x) (map (candidate_of points unknowns) (other_records seed)) (candidates-some points unknowns (other_records seed) x);
      within =
          ten (plane_square unknowns x 4) (plane_square unknowns x 5) (plane_square unknowns x 6) (plane_square unknowns x 7) (plane_square unknowns x 8)
          (height_square unknowns x 4) (height_square unknowns x 5) (height_square unknowns x 6) (height_square unknowns x 7) (height_square unknowns x 8)
          (e 39 1 (first_fixed seed 37) 4) (e 40 2 (second_fixed seed 37) 4)
          (e 43 3 (first_fixed seed 41) 5) (e 44 4 (second_fixed seed 41) 5)
          (e 47 5 (first_fixed seed 45) 6) (e 48 6 (second_fixed seed 45) 6)
          (e 51 7 (first_fixed seed 49) 7) (e 52 8 (second_fixed seed 49) 7)
          (e 55 9 (first_fixed seed 53) 8) (e 56 10 (second_fixed seed 53) 8)
          (energy_of points unknowns (other_records seed) x)
          (record {
            first = pairs 39 1 37 40 2 4;
            second = pairs 43 3 41 44 4 5;
            third = pairs 47 5 45 48 6 6;
            fourth = pairs 51 7 49 52 8 7;
            fifth = pairs 55 9 53 56 10 8;
          });
    }
