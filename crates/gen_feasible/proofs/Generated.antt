-- The network of a seed: its size, and that the plan of all candidates meets its limits.
use Rattle.std.proofs.Common.{◌≡◌, ◌∙◌, ◌≤◌, ◌+◌, ℕ, true, List, length, map, refl, sym, ap, arith, ℤ, replicate, length-append, subst, None}
use Rattle.std.specs.Prelude.{All, sum_by}
use Rattle.std.specs.List.{list_all}
use Rattle.std.proofs.lemmas.List.{length-map}
use Rattle.std.proofs.lemmas.List.Elements.{All-append, All-from_recursion, All-weaker}
use Rattle.geo_model.specs.declared.network.Unknown.{Unknown}
use Rattle.geo_model.specs.Row.{Displaced}
use Rattle.geo_model.specs.Candidate.{CandidateOf}
use Rattle.geo_model.specs.Energy.{energy}
use Rattle.geo_model.specs.Limit.{IsInForce, LimitOf}
use Rattle.geo_model.specs.Meeting.{MeetsLimit}
use Rattle.geo_model.specs.Network.{NetworkOf}
use Rattle.candidate_tables.specs.Kinds.{rules_of}
use Rattle.design_rows.specs.Equations.{equations_of}
use Rattle.design_rows.specs.Rows.{rows_of}
use Rattle.design_rows.specs.Unknowns.{unknowns_of}
use Rattle.net_build.specs.Build.{candidate_of, count_fault, limits_of, limits_of_point, network_fault, network_of, point_limits, redundancy_limits, row_count}
use Rattle.net_build.proofs.RedundancyFacts.{redundancies-count}
use Rattle.gen_net.specs.Draws.{drawn}
use Rattle.gen_records.specs.Records.{angle_record, angle_records, candidate_records, direction_record, direction_records, distance_record, distance_records, fixed_point, level_record, level_records, new_point, other_records, point_records, vector_record, vector_records}
use Rattle.gen_records.proofs.CountFacts.{candidates-counted}
use Rattle.gen_feasible.specs.Feasible.{GeneratedNetworksAreFeasible, GeneratedNetworksAreOfOneSize, generated_network}
use Rattle.gen_feasible.proofs.Assembly.{generated-borne}
use Rattle.gen_feasible.proofs.Borne.{AreBorne}
use Rattle.gen_feasible.proofs.Limits.{BearsVectors, IsBorneBy, axis-met, height-met, redundancies-met}
use Rattle.gen_feasible.proofs.Motions.{heights, heights-parts, is_of_new, planes, planes-parts}
use Rattle.gen_feasible.proofs.Shares.{IsWhole}
use Rattle.gen_feasible.proofs.Sums.{energy-all}
use Rattle.gen_feasible.proofs.Whole.{energy_of, generated-whole}

-- the unknowns of a seed
unknowns_by : ℕ → List Unknown
unknowns_by seed = unknowns_of (point_records seed) (candidate_records seed)

-- the candidates of a seed's network
candidates_by : ℕ → List CandidateOf
candidates_by seed = map (candidate_of (point_records seed) (unknowns_by seed)) (candidate_records seed)

-- ---- the unknowns: those of new points

unknowns-new : (seed : ℕ) → list_all is_of_new (unknowns_by seed) ≡ true
unfolding unknowns_by unknowns_of point_records fixed_point new_point candidate_records vector_records distance_records direction_records angle_records level_records vector_record distance_record direction_record angle_record level_record rules_of
unknowns-new seed = refl

unknowns-counted : (seed : ℕ) → length (unknowns_by seed) ≡ 17
unfolding unknowns_by unknowns_of point_records fixed_point new_point candidate_records vector_records distance_records direction_records angle_records level_records vector_record distance_record direction_record angle_record level_record rules_of
unknowns-counted seed = refl

-- ---- the counts

built-counted : (seed : ℕ) → length (candidates_by seed) ≡ 28
unfolding candidates_by
built-counted seed = length-map (candidate_records seed) (candidate_of (point_records seed) (unknowns_by seed)) ∙ candidates-counted seed

rows-counted : (seed : ℕ) (unknowns : List Unknown) → sum_by (λ candidate. length candidate.rows) (map (candidate_of (point_records seed) unknowns) (candidate_records seed)) ≡ 48
unfolding candidate_records vector_records distance_records direction_records angle_records level_records vector_record distance_record direction_record angle_record level_record rows_of equations_of
rows-counted seed unknowns = refl

point-limits-counted : (seed : ℕ) (unknowns : List Unknown) → length (point_limits (point_records seed) unknowns) ≡ 10
unfolding point_limits limits_of_point point_records fixed_point new_point
point-limits-counted seed unknowns = refl

sum_is : (m n k : ℕ) → m ≡ 10 → n ≡ k → k ≡ 48 → m + n ≡ 58
sum_is m n k h j l = omega arith

limits-counted : (seed : ℕ) → length (limits_of 200 (point_records seed) (unknowns_by seed) (candidates_by seed)) ≡ 58
unfolding limits_of candidates_by
limits-counted seed =
    let candidates = map (candidate_of (point_records seed) (unknowns_by seed)) (candidate_records seed) in
    length-append (point_limits (point_records seed) (unknowns_by seed)) (redundancy_limits 200 candidates)
    ∙ sum_is (length (point_limits (point_records seed) (unknowns_by seed))) (length (redundancy_limits 200 candidates)) (sum_by (λ candidate. length candidate.rows) candidates)
    (point-limits-counted seed (unknowns_by seed)) (redundancies-count 200 candidates) (rows-counted seed (unknowns_by seed))

-- what the network of a seed has
unknowns-are : (seed : ℕ) → (generated_network seed).unknowns ≡ unknowns_by seed
unfolding network_of unknowns_by
unknowns-are seed = refl

candidates-are : (seed : ℕ) → (generated_network seed).candidates ≡ candidates_by seed
unfolding network_of unknowns_by candidates_by
candidates-are seed = refl

limits-are : (seed : ℕ) → (generated_network seed).limits ≡ limits_of 200 (point_records seed) (unknowns_by seed) (candidates_by seed)
unfolding network_of unknowns_by candidates_by
limits-are seed = refl

all-rows-counted : (seed : ℕ) → sum_by (λ candidate. length candidate.rows) (candidates_by seed) ≡ 48
unfolding candidates_by
all-rows-counted seed = rows-counted seed (unknowns_by seed)

pub generated-sizes : GeneratedNetworksAreOfOneSize
generated-sizes seed = record {
  unknowns = ap length (unknowns-are seed) ∙ unknowns-counted seed;
  candidates = ap length (candidates-are seed) ∙ built-counted seed;
  rows = ap (sum_by (λ candidate. length candidate.rows)) (candidates-are seed) ∙ all-rows-counted seed;
  limits = ap length (limits-are seed) ∙ limits-counted seed;
}

-- it isn't too large
fault-none : (m n : ℕ) → m ≡ 17 → n ≡ 48 → count_fault m n ≡ None
fault-none m n e f = rw (e, f) refl

rows-many : (seed : ℕ) (unknowns : List Unknown) → row_count (point_records seed) unknowns (candidate_records seed) ≡ 48
unfolding row_count candidate_records vector_records distance_records direction_records angle_records level_records vector_record distance_record direction_record angle_record level_record rows_of equations_of
rows-many seed unknowns = refl

pub generated-accepted : (seed : ℕ) → network_fault (point_records seed) (candidate_records seed) ≡ None
unfolding network_fault unknowns_by
generated-accepted seed =
    fault-none (length (unknowns_by seed)) (row_count (point_records seed) (unknowns_by seed) (candidate_records seed)) (unknowns-counted seed) (rows-many seed (unknowns_by seed))

-- ---- the limits

whole-energy : (seed : ℕ) (x : Displaced) → energy (generated_network seed).candidates (replicate 28 true) x ≡ energy_of (point_records seed) (unknowns_by seed) (candidate_records seed) x
unfolding candidates_by
whole-energy seed x =
    ap (λ (candidates : List CandidateOf). energy candidates (replicate 28 true) x) (candidates-are seed)
    ∙ ap (λ (n : ℕ). energy (candidates_by seed) (replicate n true) x) (sym (built-counted seed)) ∙ energy-all (candidates_by seed) x

bears : (seed : ℕ) (x : Displaced) → BearsVectors (generated_network seed) (replicate 28 true) (unknowns_by seed) x
bears seed x = record {
  others = energy_of (point_records seed) (unknowns_by seed) (other_records seed) x;
  is =
      subst (λ (whole : ℤ). IsWhole (planes (unknowns_by seed) x) (heights (unknowns_by seed) x) (energy_of (point_records seed) (unknowns_by seed) (other_records seed) x) whole)
      (sym (whole-energy seed x)) (generated-whole (point_records seed) (unknowns_by seed) seed x (unknowns-new seed));
}

borne-at : (seed : ℕ) (x : Displaced) → All (λ candidate. AreBorne (energy (generated_network seed).candidates (replicate 28 true) x) x candidate.rows) (candidates_by seed)
unfolding candidates_by
borne-at seed x =
    subst (λ (whole : ℤ). All (λ candidate. AreBorne whole x candidate.rows) (candidates_by seed)) (sym (whole-energy seed x)) (generated-borne (unknowns_by seed) seed x (unknowns-new seed))

rows-borne : (seed : ℕ) → All (λ candidate. All (IsBorneBy (generated_network seed) (replicate 28 true)) candidate.rows) (candidates_by seed)
rows-borne seed k d inside j e within x = borne-at seed x k d inside j e within

axis-high : (d : ℕ) → 75 ≤ 75 + d
axis-high d = omega arith

height-high : (d : ℕ) → 110 ≤ 110 + d
height-high d = omega arith

-- the limits of the points
points-met : (seed : ℕ) (network : NetworkOf) (unknowns : List Unknown) → ((x : Displaced) → BearsVectors network (replicate 28 true) unknowns x)
    → All (MeetsLimit network (replicate 28 true)) (point_limits (point_records seed) unknowns)
unfolding point_limits limits_of_point point_records fixed_point new_point
points-met seed network unknowns bears =
    let plan = replicate 28 true in
    All-from_recursion (MeetsLimit network plan) (point_limits (point_records seed) unknowns) (
      axis-met network plan unknowns 4 (75 + drawn seed 15 6) bears (axis-high (drawn seed 15 6)) (λ x. (planes-parts unknowns x).first),
      (
        height-met network plan unknowns 4 (110 + drawn seed 16 11) bears (height-high (drawn seed 16 11)) (λ x. (heights-parts unknowns x).first),
        (
          axis-met network plan unknowns 5 (75 + drawn seed 20 6) bears (axis-high (drawn seed 20 6)) (λ x. (planes-parts unknowns x).second),
          (
            height-met network plan unknowns 5 (110 + drawn seed 21 11) bears (height-high (drawn seed 21 11)) (λ x. (heights-parts unknowns x).second),
            (
              axis-met network plan unknowns 6 (75 + drawn seed 25 6) bears (axis-high (drawn seed 25 6)) (λ x. (planes-parts unknowns x).third),
              (
                height-met network plan unknowns 6 (110 + drawn seed 26 11) bears (height-high (drawn seed 26 11)) (λ x. (heights-parts unknowns x).third),
                (
                  axis-met network plan unknowns 7 (75 + drawn seed 30 6) bears (axis-high (drawn seed 30 6)) (λ x. (planes-parts unknowns x).fourth),
                  (
                    height-met network plan unknowns 7 (110 + drawn seed 31 11) bears (height-high (drawn seed 31 11)) (λ x. (heights-parts unknowns x).fourth),
                    (
                      axis-met network plan unknowns 8 (75 + drawn seed 35 6) bears (axis-high (drawn seed 35 6)) (λ x. (planes-parts unknowns x).fifth),
                      (
                        height-met network plan unknowns 8 (110 + drawn seed 36 11) bears (height-high (drawn seed 36 11)) (λ x. (heights-parts unknowns x).fifth),
                        tt,
                      ),
                    ),
                  ),
                ),
              ),
            ),
          ),
        ),
      ),
    )

-- those of the candidates
redundancies-of : (seed : ℕ) → All (MeetsLimit (generated_network seed) (replicate 28 true)) (redundancy_limits 200 (candidates_by seed))
redundancies-of seed =
    subst (λ (candidates : List CandidateOf). All (MeetsLimit (generated_network seed) (replicate 28 true)) (redundancy_limits 200 candidates)) (candidates-are seed)
    (redundancies-met (generated_network seed) (replicate 28 true)
    (subst (λ (candidates : List CandidateOf). All (λ candidate. All (IsBorneBy (generated_network seed) (replicate 28 true)) candidate.rows) candidates) (sym (candidates-are seed)) (rows-borne seed)))

limits-met : (seed : ℕ) → All (MeetsLimit (generated_network seed) (replicate 28 true)) (limits_of 200 (point_records seed) (unknowns_by seed) (candidates_by seed))
unfolding limits_of
limits-met seed =
    All-append (MeetsLimit (generated_network seed) (replicate 28 true)) (point_limits (point_records seed) (unknowns_by seed)) (redundancy_limits 200 (candidates_by seed))
    (points-met seed (generated_network seed) (unknowns_by seed) (bears seed)) (redundancies-of seed)

pub generated-feasible : GeneratedNetworksAreFeasible
generated-feasible seed =
    All-weaker (MeetsLimit (generated_network seed) (replicate 28 true)) (λ limit. IsInForce limit (replicate 28 true) → MeetsLimit (generated_network seed) (replicate 28 true) limit)
    (λ limit met in_force. met) (generated_network seed).limits
    (subst (λ (limits : List LimitOf). All (MeetsLimit (generated_network seed) (replicate 28 true)) limits) (sym (limits-are seed)) (limits-met seed))
