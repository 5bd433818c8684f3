-- Each row of a generated network is borne.
use Rattle.std.proofs.Common.{◌≡◌, ◌<◌, ℕ, true, List, [], ◌∷◌, ◌++◌, Some, map, refl, arith, ℤ, ◌+ℤ◌, ◌≤ℤ◌, slice_get, suc}
use Rattle.std.specs.Prelude.{All}
use Rattle.std.specs.List.{AllByRecursion, list_all}
use Rattle.std.proofs.lemmas.List.Elements.{All-from_recursion}
use Rattle.geo_model.specs.declared.network.Unknown.{Unknown}
use Rattle.geo_model.specs.Row.{Displaced}
use Rattle.geo_model.specs.Candidate.{CandidateOf, candidate_energy}
use Rattle.point_tables.specs.declared.record.PointRecord.{PointRecord}
use Rattle.candidate_tables.specs.declared.record.CandidateRecord.{CandidateRecord}
use Rattle.design_rows.specs.Rows.{rows_of}
use Rattle.design_rows.proofs.UnknownFacts.{every-append}
use Rattle.net_build.specs.Build.{candidate_of}
use Rattle.gen_net.specs.Draws.{drawn}
use Rattle.gen_net.specs.Candidates.{first_fixed, second_fixed}
use Rattle.gen_records.specs.Records.{angle_record, angle_records, candidate_records, direction_record, direction_records, distance_record, distance_records, level_record, level_records, other_records, point_records, vector_records}
use Rattle.gen_records.proofs.CountFacts.{drawn-below}
use Rattle.gen_records.proofs.LongLines.{F1-lies, F2-lies, F3-lies, F4-lies, IsLong, N1-lies, N2-lies, N3-lies, N4-lies, N5-lies, above, below, line-long}
use Rattle.gen_feasible.proofs.Borne.{AreAmong, AreBorne, angle-borne, distance-borne, first-direction-borne, level-borne, second-direction-borne, vector-borne}
use Rattle.gen_feasible.proofs.Motions.{AreWithinSum, IsStill, first-still, height_square, heights, heights-parts, is_of_new, plane-still, plane_square, planes, planes-parts, still-height}
use Rattle.gen_feasible.proofs.RowShares.{IsFar}
use Rattle.gen_feasible.proofs.Shares.{IsWhole}
use Rattle.gen_feasible.proofs.Sums.{candidates-some, one-above, two-above}
use Rattle.gen_feasible.proofs.Whole.{energy_of, first-low, generated-whole, second-low}

-- a long line is far in both parts
far : (points : List PointRecord) (a b : ℕ) → IsLong points a b → IsFar points a b
far points a b long = record { x = long.x_low; y = long.y_low }

-- ---- the lines of directions and angles

N2-F1 : (seed : ℕ) → IsFar (point_records seed) 5 0
N2-F1 seed = far (point_records seed) 5 0 (line-long seed 5 0 2000 4000 1000 1000 (N2-lies seed) (F1-lies seed) (below 2000 1000 (omega arith) (omega arith)) (below 4000 1000 (omega arith) (omega arith)))

N2-F4 : (seed : ℕ) → IsFar (point_records seed) 5 3
N2-F4 seed = far (point_records seed) 5 3 (line-long seed 5 3 2000 4000 5000 5000 (N2-lies seed) (F4-lies seed) (above 2000 5000 (omega arith) (omega arith)) (above 4000 5000 (omega arith) (omega arith)))

N4-F2 : (seed : ℕ) → IsFar (point_records seed) 7 1
N4-F2 seed = far (point_records seed) 7 1 (line-long seed 7 1 4000 2000 1000 5000 (N4-lies seed) (F2-lies seed) (below 4000 1000 (omega arith) (omega arith)) (above 2000 5000 (omega arith) (omega arith)))

N4-F3 : (seed : ℕ) → IsFar (point_records seed) 7 2
N4-F3 seed = far (point_records seed) 7 2 (line-long seed 7 2 4000 2000 5000 1000 (N4-lies seed) (F3-lies seed) (above 4000 5000 (omega arith) (omega arith)) (below 2000 1000 (omega arith) (omega arith)))

N1-F2 : (seed : ℕ) → IsFar (point_records seed) 4 1
N1-F2 seed = far (point_records seed) 4 1 (line-long seed 4 1 2000 2000 1000 5000 (N1-lies seed) (F2-lies seed) (below 2000 1000 (omega arith) (omega arith)) (above 2000 5000 (omega arith) (omega arith)))

N1-F3 : (seed : ℕ) → IsFar (point_records seed) 4 2
N1-F3 seed = far (point_records seed) 4 2 (line-long seed 4 2 2000 2000 5000 1000 (N1-lies seed) (F3-lies seed) (above 2000 5000 (omega arith) (omega arith)) (below 2000 1000 (omega arith) (omega arith)))

N3-F1 : (seed : ℕ) → IsFar (point_records seed) 6 0
N3-F1 seed = far (point_records seed) 6 0 (line-long seed 6 0 3000 3000 1000 1000 (N3-lies seed) (F1-lies seed) (below 3000 1000 (omega arith) (omega arith)) (below 3000 1000 (omega arith) (omega arith)))

N3-F4 : (seed : ℕ) → IsFar (point_records seed) 6 3
N3-F4 seed = far (point_records seed) 6 3 (line-long seed 6 3 3000 3000 5000 5000 (N3-lies seed) (F4-lies seed) (above 3000 5000 (omega arith) (omega arith)) (above 3000 5000 (omega arith) (omega arith)))

N4-F1 : (seed : ℕ) → IsFar (point_records seed) 7 0
N4-F1 seed = far (point_records seed) 7 0 (line-long seed 7 0 4000 2000 1000 1000 (N4-lies seed) (F1-lies seed) (below 4000 1000 (omega arith) (omega arith)) (below 2000 1000 (omega arith) (omega arith)))

N4-F4 : (seed : ℕ) → IsFar (point_records seed) 7 3
N4-F4 seed = far (point_records seed) 7 3 (line-long seed 7 3 4000 2000 5000 5000 (N4-lies seed) (F4-lies seed) (above 4000 5000 (omega arith) (omega arith)) (above 2000 5000 (omega arith) (omega arith)))

N5-F2 : (seed : ℕ) → IsFar (point_records seed) 8 1
N5-F2 seed = far (point_records seed) 8 1 (line-long seed 8 1 4000 4000 1000 5000 (N5-lies seed) (F2-lies seed) (below 4000 1000 (omega arith) (omega arith)) (above 4000 5000 (omega arith) (omega arith)))

N5-F3 : (seed : ℕ) → IsFar (point_records seed) 8 2
N5-F3 seed = far (point_records seed) 8 2 (line-long seed 8 2 4000 4000 5000 1000 (N5-lies seed) (F3-lies seed) (above 4000 5000 (omega arith) (omega arith)) (below 4000 1000 (omega arith) (omega arith)))

-- ---- the candidates one by one

-- a displacement of a network whose unknowns are of new points alone
record IsAt (unknowns : List Unknown) (seed : ℕ) (x : Displaced) (others whole : ℤ) : Type 0 where
  pub whole_is : IsWhole (planes unknowns x) (heights unknowns x) others whole
  pub still : (place : ℕ) → place < 4 → IsStill unknowns x place
  pub in_planes : AreWithinSum (plane_square unknowns x 4) (plane_square unknowns x 5) (plane_square unknowns x 6) (plane_square unknowns x 7) (plane_square unknowns x 8) (planes unknowns x)
  pub in_heights : AreWithinSum (height_square unknowns x 4) (height_square unknowns x 5) (height_square unknowns x 6) (height_square unknowns x 7) (height_square unknowns x 8) (heights unknowns x)
  pub one : (k : ℕ) (candidate : CandidateRecord) → slice_get (map (candidate_of (point_records seed) unknowns) (other_records seed)) k ≡ Some (candidate_of (point_records seed) unknowns candidate)
      → candidate_energy (candidate_of (point_records seed) unknowns candidate) x ≤ℤ others
  pub two : (k : ℕ) (first second : CandidateRecord) → slice_get (map (candidate_of (point_records seed) unknowns) (other_records seed)) k ≡ Some (candidate_of (point_records seed) unknowns first)
      → slice_get (map (candidate_of (point_records seed) unknowns) (other_records seed)) (suc k) ≡ Some (candidate_of (point_records seed) unknowns second)
      → (candidate_energy (candidate_of (point_records seed) unknowns first) x +ℤ candidate_energy (candidate_of (point_records seed) unknowns second) x) ≤ℤ others

-- each row of these records is borne
abbrev EachBorne : List Unknown → ℕ → Displaced → ℤ → List CandidateRecord → Type 0
EachBorne unknowns seed x whole candidates = AllByRecursion (λ candidate. AreBorne whole x (rows_of (point_records seed) unknowns candidate)) candidates

vectors-borne : (unknowns : List Unknown) (seed : ℕ) (x : Displaced) (others whole : ℤ) → IsAt unknowns seed x others whole → EachBorne unknowns seed x whole (vector_records seed)
unfolding vector_records
vectors-borne unknowns seed x others whole at =
    let points = point_records seed in
    let first = λ (first : ℕ). at.still (first_fixed seed first) (first-low seed first) in
    let second = λ (first : ℕ). at.still (second_fixed seed first) (second-low seed first) in (
      vector-borne points unknowns x seed 39 1 (first_fixed seed 37) 4 others whole at.whole_is at.in_planes.first at.in_heights.first (first 37),
      (
        vector-borne points unknowns x seed 40 2 (second_fixed seed 37) 4 others whole at.whole_is at.in_planes.first at.in_heights.first (second 37),
        (
          vector-borne points unknowns x seed 43 3 (first_fixed seed 41) 5 others whole at.whole_is at.in_planes.second at.in_heights.second (first 41),
          (
            vector-borne points unknowns x seed 44 4 (second_fixed seed 41) 5 others whole at.whole_is at.in_planes.second at.in_heights.second (second 41),
            (
              vector-borne points unknowns x seed 47 5 (first_fixed seed 45) 6 others whole at.whole_is at.in_planes.third at.in_heights.third (first 45),
              (
                vector-borne points unknowns x seed 48 6 (second_fixed seed 45) 6 others whole at.whole_is at.in_planes.third at.in_heights.third (second 45),
                (
                  vector-borne points unknowns x seed 51 7 (first_fixed seed 49) 7 others whole at.whole_is at.in_planes.fourth at.in_heights.fourth (first 49),
                  (
                    vector-borne points unknowns x seed 52 8 (second_fixed seed 49) 7 others whole at.whole_is at.in_planes.fourth at.in_heights.fourth (second 49),
                    (
                      vector-borne points unknowns x seed 55 9 (first_fixed seed 53) 8 others whole at.whole_is at.in_planes.fifth at.in_heights.fifth (first 53),
                      (
                        vector-borne points unknowns x seed 56 10 (second_fixed seed 53) 8 others whole at.whole_is at.in_planes.fifth at.in_heights.fifth (second 53),
                        tt,
                      ),
                    ),
                  ),
                ),
              ),
            ),
          ),
        ),
      ),
    )

distances-borne : (unknowns : List Unknown) (seed : ℕ) (x : Displaced) (others whole : ℤ) → IsAt unknowns seed x others whole → EachBorne unknowns seed x whole (distance_records seed)
unfolding distance_records direction_records angle_records level_records
distances-borne unknowns seed x others whole at =
    let points = point_records seed in
    let fixed = λ (place : ℕ). at.still (drawn seed place 4) (drawn-below seed place 4 (omega arith)) in
    let within = λ (place a : ℕ). plane-still unknowns x a (drawn seed place 4) (planes unknowns x) (fixed place) in (
      distance-borne points unknowns x seed 58 1 4 (drawn seed 57 4) others whole at.whole_is (at.one 0 (distance_record seed 58 1 4 (drawn seed 57 4)) refl) (within 57 4 at.in_planes.first),
      (
        distance-borne points unknowns x seed 60 2 5 (drawn seed 59 4) others whole at.whole_is (at.one 1 (distance_record seed 60 2 5 (drawn seed 59 4)) refl) (within 59 5 at.in_planes.second),
        (
          distance-borne points unknowns x seed 62 3 6 (drawn seed 61 4) others whole at.whole_is (at.one 2 (distance_record seed 62 3 6 (drawn seed 61 4)) refl) (within 61 6 at.in_planes.third),
          (
            distance-borne points unknowns x seed 64 4 7 (drawn seed 63 4) others whole at.whole_is (at.one 3 (distance_record seed 64 4 7 (drawn seed 63 4)) refl) (within 63 7 at.in_planes.fourth),
            (
              distance-borne points unknowns x seed 66 5 8 (drawn seed 65 4) others whole at.whole_is (at.one 4 (distance_record seed 66 5 8 (drawn seed 65 4)) refl) (within 65 8 at.in_planes.fifth),
              (
                distance-borne points unknowns x seed 67 6 4 6 others whole at.whole_is (at.one 5 (distance_record seed 67 6 4 6) refl) at.in_planes.first_third,
                tt,
              ),
            ),
          ),
        ),
      ),
    )

directions-borne : (unknowns : List Unknown) (seed : ℕ) (x : Displaced) (others whole : ℤ) → IsAt unknowns seed x others whole → EachBorne unknowns seed x whole (direction_records seed)
unfolding distance_records direction_records angle_records level_records
directions-borne unknowns seed x others whole at =
    let points = point_records seed in
    let F1 = at.still 0 (omega arith) in
    let F2 = at.still 1 (omega arith) in
    let F3 = at.still 2 (omega arith) in
    let F4 = at.still 3 (omega arith) in
    let at_N2 : AreAmong points unknowns x seed 68 1 69 2 5 0 3 others = at.two 6 (direction_record seed 68 1 5 0) (direction_record seed 69 2 5 3) refl refl in
    let at_N4 : AreAmong points unknowns x seed 70 3 71 4 7 1 2 others = at.two 8 (direction_record seed 70 3 7 1) (direction_record seed 71 4 7 2) refl refl in (
      first-direction-borne points unknowns x seed 68 1 69 2 5 0 3 others whole at.whole_is at_N2 at.in_planes.second (N2-F1 seed) (N2-F4 seed) F1 F4,
      (
        second-direction-borne points unknowns x seed 68 1 69 2 5 0 3 others whole at.whole_is at_N2 at.in_planes.second (N2-F1 seed) (N2-F4 seed) F1 F4,
        (
          first-direction-borne points unknowns x seed 70 3 71 4 7 1 2 others whole at.whole_is at_N4 at.in_planes.fourth (N4-F2 seed) (N4-F3 seed) F2 F3,
          (
            second-direction-borne points unknowns x seed 70 3 71 4 7 1 2 others whole at.whole_is at_N4 at.in_planes.fourth (N4-F2 seed) (N4-F3 seed) F2 F3,
            tt,
          ),
        ),
      ),
    )

angles-borne : (unknowns : List Unknown) (seed : ℕ) (x : Displaced) (others whole : ℤ) → IsAt unknowns seed x others whole → EachBorne unknowns seed x whole (angle_records seed)
unfolding distance_records direction_records angle_records level_records
angles-borne unknowns seed x others whole at =
    let points = point_records seed in
    let F1 = at.still 0 (omega arith) in
    let F2 = at.still 1 (omega arith) in
    let F3 = at.still 2 (omega arith) in
    let F4 = at.still 3 (omega arith) in (
      angle-borne points unknowns x seed 72 1 4 1 2 others whole at.whole_is (at.one 10 (angle_record seed 72 1 4 1 2) refl) at.in_planes.first (N1-F2 seed) (N1-F3 seed) F2 F3,
      (
        angle-borne points unknowns x seed 73 2 6 0 3 others whole at.whole_is (at.one 11 (angle_record seed 73 2 6 0 3) refl) at.in_planes.third (N3-F1 seed) (N3-F4 seed) F1 F4,
        (
          angle-borne points unknowns x seed 74 3 7 0 3 others whole at.whole_is (at.one 12 (angle_record seed 74 3 7 0 3) refl) at.in_planes.fourth (N4-F1 seed) (N4-F4 seed) F1 F4,
          (
            angle-borne points unknowns x seed 75 4 8 1 2 others whole at.whole_is (at.one 13 (angle_record seed 75 4 8 1 2) refl) at.in_planes.fifth (N5-F2 seed) (N5-F3 seed) F2 F3,
            tt,
          ),
        ),
      ),
    )

levels-borne : (unknowns : List Unknown) (seed : ℕ) (x : Displaced) (others whole : ℤ) → IsAt unknowns seed x others whole → EachBorne unknowns seed x whole (level_records seed)
unfolding distance_records direction_records angle_records level_records
levels-borne unknowns seed x others whole at =
    let points = point_records seed in (
      level-borne points unknowns x seed 76 1 0 4 others whole at.whole_is (at.one 14 (level_record seed 76 1 0 4) refl) (still-height unknowns x 0 4 (heights unknowns x) (at.still 0 (omega arith)) at.in_heights.first),
      (
        level-borne points unknowns x seed 77 2 4 5 others whole at.whole_is (at.one 15 (level_record seed 77 2 4 5) refl) at.in_heights.first_second,
        (
          level-borne points unknowns x seed 78 3 5 6 others whole at.whole_is (at.one 16 (level_record seed 78 3 5 6) refl) at.in_heights.second_third,
          (
            level-borne points unknowns x seed 79 4 3 8 others whole at.whole_is (at.one 17 (level_record seed 79 4 3 8) refl) (still-height unknowns x 3 8 (heights unknowns x) (at.still 3 (omega arith)) at.in_heights.fifth),
            tt,
          ),
        ),
      ),
    )

-- ---- all of them

at-displacement : (unknowns : List Unknown) (seed : ℕ) (x : Displaced) → list_all is_of_new unknowns ≡ true
    → IsAt unknowns seed x (energy_of (point_records seed) unknowns (other_records seed) x) (energy_of (point_records seed) unknowns (candidate_records seed) x)
at-displacement unknowns seed x all =
    let candidates = map (candidate_of (point_records seed) unknowns) (other_records seed) in
    let some = candidates-some (point_records seed) unknowns (other_records seed) x in
    record {
      whole_is = generated-whole (point_records seed) unknowns seed x all;
      still = λ place low. first-still unknowns all x place low;
      in_planes = planes-parts unknowns x;
      in_heights = heights-parts unknowns x;
      one = λ k candidate is. one-above (λ candidate. candidate_energy candidate x) candidates k (candidate_of (point_records seed) unknowns candidate) some is;
      two = λ k first second is next. two-above (λ candidate. candidate_energy candidate x) candidates k (candidate_of (point_records seed) unknowns first) (candidate_of (point_records seed) unknowns second) some is next;
    }

each-borne : (unknowns : List Unknown) (seed : ℕ) (x : Displaced) (others whole : ℤ) → IsAt unknowns seed x others whole → EachBorne unknowns seed x whole (candidate_records seed)
unfolding candidate_records
each-borne unknowns seed x others whole at =
    let Borne = λ (candidate : CandidateRecord). AreBorne whole x (rows_of (point_records seed) unknowns candidate) in
    every-append Borne (vector_records seed) (other_records seed) (vectors-borne unknowns seed x others whole at)
    (every-append Borne (distance_records seed) (direction_records seed ++ (angle_records seed ++ level_records seed)) (distances-borne unknowns seed x others whole at)
    (every-append Borne (direction_records seed) (angle_records seed ++ level_records seed) (directions-borne unknowns seed x others whole at)
    (every-append Borne (angle_records seed) (level_records seed) (angles-borne unknowns seed x others whole at) (levels-borne unknowns seed x others whole at))))

mapped : (points : List PointRecord) (unknowns : List Unknown) (P : CandidateOf → Type 0) (candidates : List CandidateRecord)
    → AllByRecursion (λ candidate. P (candidate_of points unknowns candidate)) candidates → AllByRecursion P (map (candidate_of points unknowns) candidates)
mapped points unknowns P [] all = tt
mapped points unknowns P (candidate ∷ candidates) (here, others) = (here, mapped points unknowns P candidates others)

-- each row of each candidate is borne at a displacement
pub generated-borne : (unknowns : List Unknown) (seed : ℕ) (x : Displaced) → list_all is_of_new unknowns ≡ true
    → All (λ candidate. AreBorne (energy_of (point_records seed) unknowns (candidate_records seed) x) x candidate.rows) (map (candidate_of (point_records seed) unknowns) (candidate_records seed))
generated-borne unknowns seed x all =
    let whole = energy_of (point_records seed) unknowns (candidate_records seed) x in
    All-from_recursion (λ candidate. AreBorne whole x candidate.rows) (map (candidate_of (point_records seed) unknowns) (candidate_records seed))
    (mapped (point_records seed) unknowns (λ candidate. AreBorne whole x candidate.rows) (candidate_records seed)
    (each-borne unknowns seed x (energy_of (point_records seed) unknowns (other_records seed) x) whole (at-displacement unknowns seed x all)))
