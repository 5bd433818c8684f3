-- The network of accepted tables without a fault is within the bounds of networks.
use Rattle.std.proofs.Common.{◌≡◌, ◌+◌, ◌≤◌, ℕ, pos, ◌≤ℤ◌, Bool, true, false, cond, ◌&&◌, ◌==◌, List, [], None, length, map, get_or, refl, ap, arith, length-append}
use Rattle.std.specs.Prelude.{All, count_by, sum_by, int_lt, nat_lt, if◌then◌else◌}
use Rattle.std.specs.List.{IsDistinct}
use Rattle.std.proofs.lemmas.Bool.Decides.{nat_tests}
use Rattle.std.proofs.lemmas.List.{length-map}
use Rattle.std.proofs.lemmas.List.Elements.{All-nil, All-append, All-map, All-weaker}
use Rattle.std.proofs.lemmas.List.Sums.{sum_by-append}
use Rattle.whole_algebra.proofs.Order.{le_trans}
use Rattle.geo_model.specs.declared.network.Unknown.{Unknown}
use Rattle.geo_model.specs.Row.{Displaced, RowOf, row_energy, unit_at}
use Rattle.geo_model.specs.Candidate.{CandidateOf, IsCandidate, candidate_energy}
use Rattle.geo_model.specs.Energy.{full_energy}
use Rattle.geo_model.specs.Limit.{LimitOf, is_point_limit, load}
use Rattle.geo_model.specs.Network.{IsLimit, IsNetwork}
use Rattle.geo_model.proofs.StationLemmas.{no_stations}
use Rattle.geo_model.proofs.EnergyLemmas.{candidate_energy-nonneg, row_energy-nonneg}
use Rattle.point_tables.specs.declared.record.PointRecord.{PointRecord}
use Rattle.point_tables.specs.Accepted.{IsAccepted}
use Rattle.candidate_tables.specs.declared.record.CandidateRecord.{CandidateRecord}
use Rattle.candidate_tables.specs.Accepted.{IsCandidateRecord}
use Rattle.design_rows.specs.Unknowns.{is_same, unknowns_of}
use Rattle.design_rows.proofs.BoundFacts.{rows-bounded}
use Rattle.design_rows.proofs.UnknownFacts.{unknowns-differ}
use Rattle.geo_model.proofs.RowLoads.{all-own-rows}
use Rattle.net_build.specs.Bounds.{AreTables}
use Rattle.net_build.specs.Build.{candidate_of, count_fault, limits_of, network_fault, network_of, network_on, point_limits, redundancy_limits, row_count}
use Rattle.net_build.proofs.ListFacts.{count-none, sum_by-map}
use Rattle.net_build.proofs.PointFacts.{loads, one-limit, points-bounded, points-count}
use Rattle.net_build.proofs.RedundancyFacts.{redundancies-bounded, redundancies-count, redundancies-owned}

-- ---- the counts

pub record IsSmall (unknowns rows : ℕ) : Type 0 where
  pub few : unknowns ≤ 64
  pub short : rows ≤ 512

count-small : (unknowns rows : ℕ) → count_fault unknowns rows ≡ None → IsSmall unknowns rows
count-small unknowns rows none = by (nat_lt 64 unknowns) refl (nat_lt 512 rows) refl none
  where
    by : (s : Bool) → nat_lt 64 unknowns ≡ s → (t : Bool) → nat_lt 512 rows ≡ t → count_fault unknowns rows ≡ None → IsSmall unknowns rows
    by true e t f g = absurd (cc (rw e at g))
    by false e true f g = absurd (cc (rw (e, f) at g))
    by false e false f g = record { few = grind (arith, nat_tests); short = grind (arith, nat_tests) }

pub network-small : (points : List PointRecord) (candidates : List CandidateRecord) → network_fault points candidates ≡ None
    → IsSmall (length (unknowns_of points candidates)) (row_count points (unknowns_of points candidates) candidates)
unfolding network_fault
network-small points candidates none = count-small (length (unknowns_of points candidates)) (row_count points (unknowns_of points candidates) candidates) none

-- ---- the candidates

candidate-bounded : (points : List PointRecord) (unknowns : List Unknown) (candidate : CandidateRecord) → IsDistinct is_same unknowns → IsCandidateRecord points candidate
    → IsCandidate (length unknowns) (candidate_of points unknowns candidate)
candidate-bounded points unknowns candidate apart is =
    let rows = rows-bounded points unknowns candidate apart is in
    let price = is.price in
    record { price = omega arith; rows = rows.each; columns = rows.columns }

pub candidates-bounded : (points : List PointRecord) (unknowns : List Unknown) (candidates : List CandidateRecord) → IsDistinct is_same unknowns → All (IsCandidateRecord points) candidates
    → All (IsCandidate (length unknowns)) (map (candidate_of points unknowns) candidates)
candidates-bounded points unknowns candidates apart all =
    All-map (IsCandidate (length unknowns)) (candidate_of points unknowns) candidates
    (All-weaker (IsCandidateRecord points) (λ candidate. IsCandidate (length unknowns) (candidate_of points unknowns candidate)) (λ candidate is. candidate-bounded points unknowns candidate apart is) candidates all)

-- ---- the limits

-- those of the candidates' redundancy, where q is not 0
abbrev pub owned_limits : ℕ → List CandidateOf → List LimitOf
owned_limits q candidates = if q == 0 then [] else redundancy_limits q candidates

pub owned-cases : (P : List LimitOf → Type 0) (q : ℕ) (candidates : List CandidateOf) → P [] → P (redundancy_limits q candidates) → P (owned_limits q candidates)
owned-cases P q candidates none some = by (q == 0)
  where
    by : (t : Bool) → P (if t then [] else redundancy_limits q candidates)
    by true = none
    by false = some

limits-bounded : (q : ℕ) (points : List PointRecord) (unknowns : List Unknown) (candidates : List CandidateOf) → q ≤ 999 → IsDistinct is_same unknowns → All IsAccepted points
    → All (IsCandidate (length unknowns)) candidates → All (IsLimit (network_on q points unknowns candidates)) (limits_of q points unknowns candidates)
unfolding limits_of
limits-bounded q points unknowns candidates within apart accepted each =
    let network = network_on q points unknowns candidates in
    All-append (IsLimit network) (point_limits points unknowns) (owned_limits q candidates)
    (points-bounded network points apart accepted)
    (owned-cases (All (IsLimit network)) q candidates (All-nil (IsLimit network)) (redundancies-bounded network q within (all-own-rows (length unknowns) candidates each)))

none-counted : (i : ℕ) (limits : List LimitOf) → All (λ limit. is_point_limit limit.kind ≡ false) limits → count_by (loads i) limits ≡ 0
none-counted i limits all =
    count-none (loads i) limits
    (All-weaker (λ limit. is_point_limit limit.kind ≡ false) (λ limit. loads i limit ≡ false) (λ limit e. ap (λ (t : Bool). t && int_lt (pos 0) (load limit.squares (unit_at i))) e) limits all)

limits-one : (q : ℕ) (points : List PointRecord) (unknowns : List Unknown) (candidates : List CandidateOf) (i : ℕ) → count_by (loads i) (limits_of q points unknowns candidates) ≤ 1
unfolding limits_of
limits-one q points unknowns candidates i =
    let none = owned-cases (λ limits. count_by (loads i) limits ≡ 0) q candidates refl (none-counted i (redundancy_limits q candidates) (redundancies-owned q candidates)) in
    omega (arith, none, one-limit unknowns points i, sum_by-append (λ (l : LimitOf). cond (loads i l) 1 0) (point_limits points unknowns) (owned_limits q candidates))

limits-count : (q : ℕ) (points : List PointRecord) (unknowns : List Unknown) (candidates : List CandidateOf) (rows : ℕ) → sum_by (λ candidate. length candidate.rows) candidates ≤ rows
    → length (limits_of q points unknowns candidates) ≤ length (point_limits points unknowns) + rows
unfolding limits_of
limits-count q points unknowns candidates rows few =
    let owned = owned-cases (λ limits. length limits ≤ rows) q candidates (omega arith) (omega (arith, redundancies-count q candidates, few)) in
    omega (arith, owned, length-append (point_limits points unknowns) (owned_limits q candidates))

-- ---- the network

rows-counted : (points : List PointRecord) (unknowns : List Unknown) (candidates : List CandidateRecord)
    → sum_by (λ candidate. length candidate.rows) (map (candidate_of points unknowns) candidates) ≡ row_count points unknowns candidates
unfolding row_count
rows-counted points unknowns candidates = sum_by-map (λ (candidate : CandidateOf). length candidate.rows) (candidate_of points unknowns) candidates

-- so the candidates have at most 512 rows
pub rows-most : (points : List PointRecord) (candidates : List CandidateRecord) (columns : List Unknown) (built : List CandidateOf) → network_fault points candidates ≡ None
    → columns ≡ unknowns_of points candidates → built ≡ map (candidate_of points columns) candidates → sum_by (λ candidate. length candidate.rows) built ≤ 512
rows-most points candidates columns built none numbered made =
    let small = network-small points candidates none in
    let rows = rows-counted points columns candidates in
    let same : sum_by (λ (candidate : CandidateOf). length candidate.rows) built ≡ sum_by (λ (candidate : CandidateOf). length candidate.rows) (map (candidate_of points columns) candidates) =
    ap (sum_by (λ (candidate : CandidateOf). length candidate.rows)) made in
    let count : row_count points columns candidates ≡ row_count points (unknowns_of points candidates) candidates = ap (λ (us : List Unknown). row_count points us candidates) numbered in
    omega (arith, same, rows, count, small.short)

pub network-bounded : (points : List PointRecord) (candidates : List CandidateRecord) (q : ℕ) → AreTables points candidates q
    → IsNetwork (network_of points candidates q) × (length (network_of points candidates q).limits ≤ 576)
unfolding network_of
network-bounded points candidates q are =
    let unknowns = unknowns_of points candidates in
    let built = map (candidate_of points unknowns) candidates in
    let small = network-small points candidates are.small in
    let rows = rows-counted points unknowns candidates in
    let apart = unknowns-differ points candidates in
    let each = candidates-bounded points unknowns candidates apart are.against.each in
    let count = limits-count q points unknowns built 512 (omega (arith, rows, small.short)) in
    let most : length (limits_of q points unknowns built) ≤ 576 = omega (arith, count, points-count unknowns points candidates, small.few) in (
      record {
        unknowns = small.few;
        candidates = omega (arith, length-map candidates (candidate_of points unknowns), are.against.few);
        rows = omega (arith, rows, small.short);
        limits = omega (arith, most);
        each_candidate = each;
        each_limit = limits-bounded q points unknowns built are.redundancy apart are.accepted each;
        one_limit = limits-one q points unknowns built;
        stations = no_stations _;
      },
      most,
    )
