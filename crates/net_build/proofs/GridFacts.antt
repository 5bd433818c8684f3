-- The limits of accepted tables have light loads, so their grid matrices are small beside the diagonal.
use Rattle.std.proofs.Common.{◌≡◌, ◌≢◌, ◌==◌, ◌+◌, ◌≤◌, ℕ, zero, ℤ, pos, ◌+ℤ◌, ◌-ℤ◌, ◌*ℤ◌, ◌≤ℤ◌, inl, inr, Bool, true, false, if◌then◌else◌, List, [], ◌∷◌, length, map, get_or, refl, arith, eqb-true}
use Rattle.std.specs.Prelude.{All, unsigned_abs}
use Rattle.std.specs.List.{IsDistinct}
use Rattle.std.proofs.lemmas.Int.{ints}
use Rattle.std.proofs.lemmas.List.Elements.{All-nil, All-cons, All-head, All-tail, All-append}
use Rattle.std.proofs.lemmas.List.Sums.{sum_by-cons}
use Rattle.whole_algebra.proofs.Ring.{mul_one, mul_zero}
use Rattle.whole_algebra.proofs.Normal.{ring, x0, x1, lit, ◌⊗◌, ◌⊕◌}
use Rattle.geo_model.specs.declared.network.Unknown.{Unknown}
use Rattle.geo_model.specs.declared.network.Component.TheVariants as component
use Rattle.geo_model.specs.Row.{Entries, RowOf, form_at, total_size, unit_at}
use Rattle.geo_model.specs.Candidate.{CandidateOf, IsCandidate}
use Rattle.geo_model.specs.Energy.{full_energy}
use Rattle.geo_model.specs.Limit.{LimitOf, SquareOf}
use Rattle.geo_model.specs.Network.{NetworkOf}
use Rattle.normal_matrix.specs.Entries.{coefficient}
use Rattle.limit_forms.specs.Grid.{HasNoneBeside, IsLight}
use Rattle.limit_forms.proofs.Beside.{lower_beside, upper_beside}
use Rattle.point_tables.specs.declared.record.PointRecord.{PointRecord}
use Rattle.point_tables.specs.Accepted.{IsAccepted}
use Rattle.candidate_tables.specs.declared.record.CandidateRecord.{CandidateRecord}
use Rattle.design_rows.specs.Unknowns.{is_same, unknown, unknowns_of}
use Rattle.design_rows.proofs.UnknownFacts.{unknowns-differ}
use Rattle.net_build.specs.Bounds.{AreTables}
use Rattle.net_build.specs.Build.{axis_limit, candidate_of, height_limit, limits_of, limits_of_candidate, limits_of_part, limits_of_point, network_of, network_on, point_limits, redundancy_limit, redundancy_limits, square_on}
use Rattle.net_build.specs.SmallGrids.{IsSmallBeside}
use Rattle.net_build.proofs.ListFacts.{All-numbered, All-parts}
use Rattle.net_build.proofs.SquareFacts.{IsUnit, square-unit}
use Rattle.net_build.proofs.PointFacts.{part-each}
use Rattle.geo_model.proofs.RowLoads.{AreOwnRows, IsOwnRow, all-own-rows, alpha-low, thousand-times}
use Rattle.net_build.proofs.NetworkFacts.{candidates-bounded, network-bounded, owned-cases, owned_limits}

abbrev IsLightLimit : NetworkOf → LimitOf → Type 0
IsLightLimit network limit = IsLight network limit.alpha limit.squares

-- ---- the limits of the points: each square is on one unknown

-- what two different unknowns have of an entry
two-parts : (c : ℤ) (s t : Bool) → (s ≡ true → t ≡ true → ⊥) → unsigned_abs (c *ℤ (if s then pos 1 else pos 0)) + unsigned_abs (c *ℤ (if t then pos 1 else pos 0)) ≤ unsigned_abs c
two-parts c true true apart = absurd (apart refl refl)
two-parts c true false apart = let one : c *ℤ pos 1 ≡ c = mul_one c in let none : c *ℤ pos 0 ≡ pos 0 = mul_zero c in rw (one, none) (omega arith)
two-parts c false t apart = let none : c *ℤ pos 0 ≡ pos 0 = mul_zero c in rw none (other c t)
  where
    other : (c : ℤ) (t : Bool) → 0 + unsigned_abs (c *ℤ (if t then pos 1 else pos 0)) ≤ unsigned_abs c
    other c true = let one : c *ℤ pos 1 ≡ c = mul_one c in rw one (omega arith)
    other c false = let none : c *ℤ pos 0 ≡ pos 0 = mul_zero c in rw none (omega arith)

add-parts : (a b c d : ℤ) (s t all : ℕ) → unsigned_abs a + unsigned_abs b ≤ s → unsigned_abs c + unsigned_abs d ≤ t → all ≡ s + t → unsigned_abs (a +ℤ c) + unsigned_abs (b +ℤ d) ≤ all
add-parts a b c d s t all h k e = omega (arith, ints)

-- the coefficients of two unknowns together are at most all of them
two-coefficients : (entries : Entries) (i j : ℕ) → i ≢ j → unsigned_abs (coefficient entries i) + unsigned_abs (coefficient entries j) ≤ total_size entries
two-coefficients [] i j apart = omega arith
two-coefficients (entry ∷ entries) i j apart =
    add-parts (entry.1 *ℤ unit_at i entry.0) (entry.1 *ℤ unit_at j entry.0) (coefficient entries i) (coefficient entries j) (unsigned_abs entry.1) (total_size entries) (total_size (entry ∷ entries))
    (two-parts entry.1 (entry.0 == i) (entry.0 == j) (λ s t. apart (ap₂-same entry.0 i j (eqb-true entry.0 i s) (eqb-true entry.0 j t))))
    (two-coefficients entries i j apart)
    (sum_by-cons (λ (e : ℕ × ℤ). unsigned_abs e.1) entry entries)
  where
    ap₂-same : (k i j : ℕ) → k ≡ i → k ≡ j → i ≡ j
    ap₂-same k i j e f = omega arith

one-of-two : (b p q : ℤ) → unsigned_abs p + unsigned_abs q ≤ 1 → b *ℤ (p *ℤ q) ≡ pos 0
one-of-two b (pos zero) q h = ring (x0 ⊗ (lit 0 ⊗ x1)) (lit 0) (b ∷ q ∷ []) refl
one-of-two b p (pos zero) h = ring (x0 ⊗ (x1 ⊗ lit 0)) (lit 0) (b ∷ p ∷ []) refl
one-of-two b p q h = absurd (omega (arith, ints))

units-apart : (n : ℕ) (squares : List SquareOf) → All (IsUnit n) squares → HasNoneBeside squares
units-apart n [] all i j apart = refl
units-apart n (square ∷ squares) all i j apart =
    let is = All-head (IsUnit n) square squares all in
    let both = two-coefficients square.entries i j apart in
    let few = is.total in
    let here = one-of-two square.beta (coefficient square.entries i) (coefficient square.entries j) (omega arith) in
    let rest = units-apart n squares (All-tail (IsUnit n) square squares all) i j apart in
    rw (here, rest) refl

axis-light : (network : NetworkOf) → IsDistinct is_same network.unknowns → (place s : ℕ) → IsLightLimit network (axis_limit network.unknowns place s)
unfolding axis_limit
axis-light network apart place s =
    let us = network.unknowns in
    let n = length us in
    let x = square_on us (unknown place component.X) in
    let y = square_on us (unknown place component.Y) in
    inr (units-apart n (x ∷ y ∷ [])
    (All-cons (IsUnit n) x (y ∷ []) (square-unit us (unknown place component.X) apart)
    (All-cons (IsUnit n) y [] (square-unit us (unknown place component.Y) apart) (All-nil (IsUnit n)))))

height-light : (network : NetworkOf) → IsDistinct is_same network.unknowns → (place s : ℕ) → IsLightLimit network (height_limit network.unknowns place s)
unfolding height_limit
height-light network apart place s =
    let us = network.unknowns in
    let n = length us in
    let z = square_on us (unknown place component.Z) in
    inr (units-apart n (z ∷ []) (All-cons (IsUnit n) z [] (square-unit us (unknown place component.Z) apart) (All-nil (IsUnit n))))

points-light : (network : NetworkOf) (points : List PointRecord) → IsDistinct is_same network.unknowns → All IsAccepted points
    → All (IsLightLimit network) (point_limits points network.unknowns)
unfolding point_limits limits_of_point
points-light network points apart all =
    All-parts (IsLightLimit network) IsAccepted (limits_of_point network.unknowns) (length points) 0 points
    (λ place point within is. All-append (IsLightLimit network) (limits_of_part (axis_limit network.unknowns place) point.plane) (limits_of_part (height_limit network.unknowns place) point.height)
    (part-each (IsLightLimit network) (axis_limit network.unknowns place) point.plane is.plane (λ s least most. axis-light network apart place s))
    (part-each (IsLightLimit network) (height_limit network.unknowns place) point.height is.height (λ s least most. height-light network apart place s)))
    (omega arith) all

-- ---- the limits of a candidate's redundancy: a thousand times the row

row-light : (network : NetworkOf) (q owner place : ℕ) (row : RowOf) → q ≤ 999 → IsOwnRow (length network.unknowns) network.candidates row
    → IsLightLimit network (redundancy_limit q owner (place, row))
unfolding redundancy_limit
row-light network q owner place row within is =
    inl (λ i inside. thousand-times row.weight (form_at row.entries (unit_at i)) (pos 1000 -ℤ pos q) (full_energy network.candidates (unit_at i)) is.bounds.weight_low (alpha-low q within) (is.energy (unit_at i)))

redundancies-light : (network : NetworkOf) (q : ℕ) → q ≤ 999 → All (AreOwnRows (length network.unknowns) network.candidates) network.candidates
    → All (IsLightLimit network) (redundancy_limits q network.candidates)
unfolding redundancy_limits limits_of_candidate
redundancies-light network q within all =
    All-parts (IsLightLimit network) (AreOwnRows (length network.unknowns) network.candidates) (limits_of_candidate q) (length network.candidates) 0 network.candidates
    (λ owner candidate inside rows. All-numbered (IsLightLimit network) (IsOwnRow (length network.unknowns) network.candidates) (redundancy_limit q owner) 0 candidate.rows
    (λ place row is. row-light network q owner place row within is) rows)
    (omega arith) all

-- ---- all limits

limits-light : (q : ℕ) (points : List PointRecord) (unknowns : List Unknown) (candidates : List CandidateOf) → q ≤ 999 → IsDistinct is_same unknowns → All IsAccepted points
    → All (IsCandidate (length unknowns)) candidates → All (IsLightLimit (network_on q points unknowns candidates)) (limits_of q points unknowns candidates)
unfolding limits_of
limits-light q points unknowns candidates within apart accepted each =
    let network = network_on q points unknowns candidates in
    All-append (IsLightLimit network) (point_limits points unknowns) (owned_limits q candidates)
    (points-light network points apart accepted)
    (owned-cases (All (IsLightLimit network)) q candidates (All-nil (IsLightLimit network)) (redundancies-light network q within (all-own-rows (length unknowns) candidates each)))

network-light : (points : List PointRecord) (candidates : List CandidateRecord) (q : ℕ) → AreTables points candidates q
    → All (IsLightLimit (network_of points candidates q)) (network_of points candidates q).limits
unfolding network_of
network-light points candidates q are =
    let unknowns = unknowns_of points candidates in
    let apart = unknowns-differ points candidates in
    limits-light q points unknowns (map (candidate_of points unknowns) candidates) are.redundancy apart are.accepted (candidates-bounded points unknowns candidates apart are.against.each)

pub grids-small : (points : List PointRecord) (candidates : List CandidateRecord) (q : ℕ) → AreTables points candidates q
    → All (IsSmallBeside (network_of points candidates q)) (network_of points candidates q).limits
grids-small points candidates q are k d inside =
    let network = network_of points candidates q in
    let bounds = (network-bounded points candidates q are).0 in
    let form = get_or network.limits k d in
    let load = (bounds.each_limit k d inside).bounded in
    let light = network-light points candidates q are k d inside in record {
      lower = λ plan i j. lower_beside network plan form.alpha form.squares i j bounds load light;
      upper = λ plan i j. upper_beside network plan form.alpha form.squares i j bounds load light;
    }
