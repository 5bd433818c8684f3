-- Where the limits of points stand in a network, and what holds of them.
use Rattle.std.proofs.Common.{◌≡◌, ℕ, zero, suc, ◌+◌, List, [], ◌∷◌, ◌++◌, Some, length, take, map, slice_get, refl, sym, ◌∙◌, ap, ap₂, subst, arith, append_assoc, length-append}
use Rattle.std.specs.List.{IsDistinct, enumerate_from, flat_map}
use Rattle.std.proofs.lemmas.List.{length-map}
use Rattle.geo_model.specs.declared.network.Unknown.{Unknown}
use Rattle.geo_model.specs.Limit.{LimitOf}
use Rattle.geo_model.specs.Network.{NetworkOf}
use Rattle.point_tables.specs.declared.record.PointRecord.{PointRecord}
use Rattle.candidate_tables.specs.declared.record.CandidateRecord.{CandidateRecord}
use Rattle.design_rows.specs.Unknowns.{is_same, unknowns_of}
use Rattle.design_rows.proofs.UnknownFacts.{unknowns-differ}
use Rattle.net_build.specs.Build.{axis_limit, candidate_of, height_limit, limits_of, limits_of_point, network_of, point_limits}
use Rattle.net_build.proofs.NetworkFacts.{owned_limits}
use Rattle.net_build.proofs.ValueFacts.{axis-bears, height-bears}
use Rattle.plan_report.specs.declared.length_kind.LengthKind.{LengthKind}
use Rattle.plan_report.specs.declared.length_kind.LengthKind.TheVariants as length_of
use Rattle.plan_report.specs.Reported.{IsNetworkFor, StandFrom}
use Rattle.plan_report.specs.Shown.{length_limit, TakesLengths}

-- ---- lists one after another

pub front : {X : Type 0} (a b : List X) (j : ℕ) (y : X) → slice_get a j ≡ Some y → slice_get (a ++ b) j ≡ Some y
front [] b j y here = absurd (cc)
front (x ∷ a) b zero y here = here
front (x ∷ a) b (suc j) y here = front a b j y here

pub behind : {X : Type 0} (a b : List X) (j : ℕ) (y : X) → slice_get b j ≡ Some y → slice_get (a ++ b) (length a + j) ≡ Some y
behind [] b j y here = subst (λ k. slice_get b k ≡ Some y) (zero_first j) here
  where
    zero_first : (j : ℕ) → j ≡ 0 + j
    zero_first j = omega arith
behind (x ∷ a) b j y here = subst (λ k. slice_get (x ∷ (a ++ b)) k ≡ Some y) (one_first (length a) j) (behind a b j y here)
  where
    one_first : (n j : ℕ) → suc (n + j) ≡ suc n + j
    one_first n j = omega arith

-- what the numbered element at a place gives stands behind what those before it give
pub parts_stand : {X Y : Type 0} (f : ℕ × X → List Y) (first k : ℕ) (xs : List X) (x : X) (more : List Y) → slice_get xs k ≡ Some x
    → (j : ℕ) (y : Y) → slice_get (f (first + k, x)) j ≡ Some y
    → slice_get (flat_map f (enumerate_from first xs) ++ more) (length (flat_map f (enumerate_from first (take k xs))) + j) ≡ Some y
parts_stand f first k [] x more here j y found = absurd (cc)
parts_stand f first zero (z ∷ xs) x more here j y found =
    let same : z ≡ x = cc in
    let number : first + 0 ≡ first = omega arith in
    let found_too = subst (λ n. slice_get (f (n, x)) j ≡ Some y) number found in
    let found_there = subst (λ e. slice_get (f (first, e)) j ≡ Some y) (sym same) found_too in
    behind [] ((f (first, z) ++ flat_map f (enumerate_from (first + 1) xs)) ++ more) j y
    (front (f (first, z) ++ flat_map f (enumerate_from (first + 1) xs)) more j y (front (f (first, z)) (flat_map f (enumerate_from (first + 1) xs)) j y found_there))
parts_stand f first (suc k) (z ∷ xs) x more here j y found =
    let number : first + suc k ≡ (first + 1) + k = omega arith in
    let rest = flat_map f (enumerate_from (first + 1) xs) in
    let before = flat_map f (enumerate_from (first + 1) (take k xs)) in
    let there = parts_stand f (first + 1) k xs x more here j y (subst (λ n. slice_get (f (n, x)) j ≡ Some y) number found) in
    let count : length (f (first, z)) + (length before + j) ≡ length (f (first, z) ++ before) + j = omega (arith, length-append (f (first, z)) before) in
    subst (λ n. slice_get ((f (first, z) ++ rest) ++ more) n ≡ Some y) count
    (subst (λ all. slice_get all (length (f (first, z)) + (length before + j)) ≡ Some y) (sym (append_assoc (f (first, z)) rest more))
    (behind (f (first, z)) (rest ++ more) (length before + j) y there))

-- .. and with it there are as many more
pub parts_more : {X Y : Type 0} (f : ℕ × X → List Y) (first k : ℕ) (xs : List X) (x : X) → slice_get xs k ≡ Some x
    → length (flat_map f (enumerate_from first (take (suc k) xs))) ≡ length (flat_map f (enumerate_from first (take k xs))) + length (f (first + k, x))
parts_more f first k [] x here = absurd (cc)
parts_more f first zero (z ∷ xs) x here =
    let same : z ≡ x = cc in
    let number : first + 0 ≡ first = omega arith in
    let as_many = ap₂ (λ n e. length (f (n, e))) (sym number) same in
    omega (arith, length-append (f (first, z)) [], as_many)
parts_more f first (suc k) (z ∷ xs) x here =
    let number : (first + 1) + k ≡ first + suc k = omega arith in
    let rest = parts_more f (first + 1) k xs x here in
    let as_many = ap (λ n. length (f (n, x))) number in
    omega (
      arith,
      rest,
      as_many,
      length-append (f (first, z)) (flat_map f (enumerate_from (first + 1) (take (suc k) xs))),
      length-append (f (first, z)) (flat_map f (enumerate_from (first + 1) (take k xs))),
    )

-- ---- the limits of a network

pub stand_first : (limits : List LimitOf) (number : ℕ) (a b : List LimitOf) → StandFrom limits number (a ++ b) → StandFrom limits number a
stand_first limits number a b stand j given here = stand j given (front a b j given here)

pub stand_second : (limits : List LimitOf) (number next : ℕ) (a b : List LimitOf) → next ≡ number + length a → StandFrom limits number (a ++ b) → StandFrom limits next b
stand_second limits number next a b is stand j given here =
    let same : number + (length a + j) ≡ next + j = omega arith in
    subst (λ k. slice_get limits k ≡ Some given) same (stand (length a + j) given (behind a b j given here))

-- the limits of a point stand behind those of the points before it
pub point_stands : (points : List PointRecord) (candidates : List CandidateRecord) (q : ℕ) (network : NetworkOf) (k : ℕ) (point : PointRecord)
    → IsNetworkFor points candidates q network → slice_get points k ≡ Some point
    → StandFrom network.limits (length (flat_map (limits_of_point network.unknowns) (enumerate_from 0 (take k points)))) (limits_of_point network.unknowns (k, point))
unfolding network_of limits_of point_limits
point_stands points candidates q network k point is here j given found =
    let unknowns = unknowns_of points candidates in
    let built = map (candidate_of points unknowns) candidates in
    let f = limits_of_point network.unknowns in
    let limits : network.limits ≡ flat_map f (enumerate_from 0 points) ++ (owned_limits q built ++ is.added) =
    is.limits ∙ append_assoc (flat_map (limits_of_point unknowns) (enumerate_from 0 points)) (owned_limits q built) is.added
    ∙ ap (λ us. flat_map (limits_of_point us) (enumerate_from 0 points) ++ (owned_limits q built ++ is.added)) (sym is.unknowns) in
    let number : k ≡ 0 + k = omega arith in
    subst (λ all. slice_get all (length (flat_map f (enumerate_from 0 (take k points))) + j) ≡ Some given) (sym limits)
    (parts_stand f 0 k points point (owned_limits q built ++ is.added) here j given (subst (λ n. slice_get (f (n, point)) j ≡ Some given) number found))

-- .. and it has as many
pub point_count : (unknowns : List Unknown) (points : List PointRecord) (k : ℕ) (point : PointRecord) → slice_get points k ≡ Some point
    → length (flat_map (limits_of_point unknowns) (enumerate_from 0 (take (suc k) points))) ≡ length (flat_map (limits_of_point unknowns) (enumerate_from 0 (take k points))) + length (limits_of_point unknowns (k, point))
point_count unknowns points k point here =
    let number : 0 + k ≡ k = omega arith in
    let as_many = ap (λ n. length (limits_of_point unknowns (n, point))) number in
    omega (arith, parts_more (limits_of_point unknowns) 0 k points point here, as_many)

-- no two unknowns are the same
pub apart : (points : List PointRecord) (candidates : List CandidateRecord) (q : ℕ) (network : NetworkOf) → IsNetworkFor points candidates q network → IsDistinct is_same network.unknowns
unfolding network_of
apart points candidates q network is = subst (IsDistinct is_same) (sym is.unknowns) (unknowns-differ points candidates)

pub takes_lengths : (points : List PointRecord) (candidates : List CandidateRecord) (q : ℕ) (network : NetworkOf) (kind : LengthKind) (place s : ℕ) → IsNetworkFor points candidates q network
    → TakesLengths network (length_limit kind network.unknowns place s)
unfolding axis_limit height_limit
takes_lengths points candidates q network length_of.Axis place s is =
    record { value = λ v low high. (low, high); bounds = λ v low high. axis-bears network place s (apart points candidates q network is) v (low, high) }
takes_lengths points candidates q network length_of.Height place s is =
    record { value = λ v low high. (low, high); bounds = λ v low high. height-bears network place s (apart points candidates q network is) v (low, high) }

-- the tables have as many candidates
pub as_many : (points : List PointRecord) (candidates : List CandidateRecord) (q : ℕ) (network : NetworkOf) → IsNetworkFor points candidates q network → length candidates ≡ length network.candidates
unfolding network_of
as_many points candidates q network is = sym (ap length is.offered ∙ length-map candidates (candidate_of points (unknowns_of points candidates)))

-- the limit of a part that is new stands at its number
pub limit_stands : (limits : List LimitOf) (number : ℕ) (given : LimitOf) → StandFrom limits number (given ∷ []) → slice_get limits number ≡ Some given
limit_stands limits number given stand =
    let same : number + 0 ≡ number = omega arith in
    subst (λ k. slice_get limits k ≡ Some given) same (stand 0 given refl)
