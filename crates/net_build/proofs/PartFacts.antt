-- Counts, limits and networks from their parts.
use Rattle.std.proofs.Common.{◌≡◌, ◌≢◌, ◌∙◌, ◌*◌, ◌≤◌, ℕ, ℤ, pos, ◌-ℤ◌, ◌*ℤ◌, false, List, [], ◌∷◌, ◌++◌, Some, None, length, map, refl, sym, ap, ap₂, arith, append-nil, eqb, FitsSigned, to_z, of_z, w64}
use mir.Syntax.{w128}
use Rattle.std.proofs.Math.Nat.{mul-le-mul}
use Rattle.std.proofs.lemmas.Bool.Decides.{nat_tests}
use Rattle.std.proofs.lemmas.Int.{fits_signed_from_abs, ints, to_z-of_z, to_z_pos}
use Rattle.geo_model.specs.declared.network.Unknown.{Unknown}
use Rattle.geo_model.specs.declared.limit.LimitKind.TheVariants as limit
use Rattle.geo_model.specs.declared.network.Component.TheVariants as component
use Rattle.geo_model.specs.Row.{RowOf}
use Rattle.geo_model.specs.Candidate.{CandidateOf}
use Rattle.geo_model.specs.Limit.{LimitOf, SquareOf}
use Rattle.geo_model.specs.Network.{NetworkOf, network_of_lists}
use Rattle.point_tables.specs.declared.record.PointRecord.{PointRecord}
use Rattle.candidate_tables.specs.declared.kind.Kind.{Kind}
use Rattle.candidate_tables.specs.declared.kind.Kind.TheVariants as kind
use Rattle.candidate_tables.specs.declared.record.CandidateRecord.{CandidateRecord}
use Rattle.candidate_tables.specs.Kinds.{rules_of}
use Rattle.design_rows.specs.Rows.{rows_of}
use Rattle.design_rows.specs.Unknowns.{unknown, unknowns_of}
use Rattle.design_rows.proofs.RowFacts.{rows-counted}
use Rattle.net_build.specs.Build.{axis_limit, candidate_of, count_fault, height_limit, limits_of, network_fault, network_of, network_on, point_limits, redundancy_limit, redundancy_limits, row_count, square_on}
use Rattle.net_build.proofs.SquareFacts.{numbered}

-- a kind gives at most three rows
pub few-rows : (k : Kind) → (rules_of k).rows ≤ 3
unfolding rules_of
few-rows kind.Distance = omega arith
few-rows kind.Direction = omega arith
few-rows kind.Angle = omega arith
few-rows kind.Level = omega arith
few-rows kind.Vector = omega arith

-- the rows of a candidate, by their count
pub rows-by : (points : List PointRecord) (unknowns : List Unknown) (candidate : CandidateRecord) (count : ℕ) → count ≡ (rules_of candidate.kind).rows
    → count ≡ length (rows_of points unknowns candidate)
rows-by points unknowns candidate count e = e ∙ sym (rows-counted points unknowns candidate)

-- ---- factors

pub alpha-is : (s : ℕ) → s ≤ 1000 → to_z w64 (of_z w64 (to_z w64 s *ℤ to_z w64 s)) ≡ pos (s * s)
alpha-is s most =
    let e : to_z w64 s ≡ pos s = to_z_pos w64 s (omega arith) in
    let small : s * s ≤ 1000 * 1000 = mul-le-mul most most in
    rw e (to_z-of_z w64 (pos s *ℤ pos s) (fits_signed_from_abs w64 (pos s *ℤ pos s) (omega (arith, small))))

pub redundancy-is : (q : ℕ) → q ≤ 999 → to_z w64 (of_z w64 (pos 1000 -ℤ to_z w64 q)) ≡ pos 1000 -ℤ pos q
redundancy-is q most =
    let e : to_z w64 q ≡ pos q = to_z_pos w64 q (omega arith) in
    rw e (to_z-of_z w64 (pos 1000 -ℤ pos q) (fits_signed_from_abs w64 (pos 1000 -ℤ pos q) (omega (arith, ints))))

-- a weight as it is cast
pub beta-is : (w : ℤ) → FitsSigned w64 w
    → to_z w128 (of_z w128 (pos 1000 *ℤ to_z w128 (of_z w128 (to_z w64 (of_z w64 w))))) ≡ pos 1000 *ℤ w
beta-is w fits =
    let inner : to_z w64 (of_z w64 w) ≡ w = to_z-of_z w64 w fits in
    let outer : to_z w128 (of_z w128 w) ≡ w = to_z-of_z w128 w (fits_signed_from_abs w128 w (omega (arith, ints))) in
    rw (inner, outer) (to_z-of_z w128 (pos 1000 *ℤ w) (fits_signed_from_abs w128 (pos 1000 *ℤ w) (omega (arith, ints))))

pub owned-square : (w v : ℤ) (entries given : List (ℕ × ℤ)) → FitsSigned w64 w → w ≡ v → entries ≡ given
    → ◌≡◌ {A = SquareOf} (record { beta = to_z w128 (of_z w128 (pos 1000 *ℤ to_z w128 (of_z w128 (to_z w64 (of_z w64 w))))); entries = entries }) (record { beta = pos 1000 *ℤ v; entries = given })
owned-square w v entries given fits e f =
    ap₂ (λ (b : ℤ) (l : List (ℕ × ℤ)). record { beta = b; entries = l }) (beta-is w fits ∙ ap (λ (z : ℤ). pos 1000 *ℤ z) e) f

-- ---- limits from their parts

pub axis-is : (unknowns : List Unknown) (place s : ℕ) (alpha : ℤ) (squares : List SquareOf) → alpha ≡ pos (s * s)
    → squares ≡ square_on unknowns (unknown place component.X) ∷ square_on unknowns (unknown place component.Y) ∷ []
    → record { kind = limit.Axis place; owner = None; alpha = alpha; squares = squares } ≡ axis_limit unknowns place s
unfolding axis_limit
axis-is unknowns place s alpha squares e f = ap₂ (λ (a : ℤ) (l : List SquareOf). record { kind = limit.Axis place; owner = None; alpha = a; squares = l }) e f

pub height-is : (unknowns : List Unknown) (place s : ℕ) (alpha : ℤ) (squares : List SquareOf) → alpha ≡ pos (s * s)
    → squares ≡ square_on unknowns (unknown place component.Z) ∷ []
    → record { kind = limit.Height place; owner = None; alpha = alpha; squares = squares } ≡ height_limit unknowns place s
unfolding height_limit
height-is unknowns place s alpha squares e f = ap₂ (λ (a : ℤ) (l : List SquareOf). record { kind = limit.Height place; owner = None; alpha = a; squares = l }) e f

pub owned-is : (q owner place : ℕ) (row : RowOf) (alpha : ℤ) (squares : List SquareOf) → alpha ≡ pos 1000 -ℤ pos q
    → squares ≡ record { beta = pos 1000 *ℤ row.weight; entries = row.entries } ∷ []
    → record { kind = limit.Redundancy owner place; owner = Some owner; alpha = alpha; squares = squares } ≡ redundancy_limit q owner (place, row)
unfolding redundancy_limit
owned-is q owner place row alpha squares e f =
    ap₂ (λ (a : ℤ) (l : List SquareOf). record { kind = limit.Redundancy owner place; owner = Some owner; alpha = a; squares = l }) e f

-- ---- the network from its parts

pub network-is : (points : List PointRecord) (candidates : List CandidateRecord) (q : ℕ) (columns unknowns : List Unknown) (built : List CandidateOf) (limits : List LimitOf)
    → columns ≡ unknowns_of points candidates → unknowns ≡ columns → built ≡ map (candidate_of points columns) candidates → limits ≡ limits_of q points columns built
    → ◌≡◌ {A = NetworkOf} (network_of_lists unknowns built limits) (network_of points candidates q)
unfolding network_of
network-is points candidates q columns unknowns built limits numbered same made given =
    let first : ◌≡◌ {A = NetworkOf} (network_of_lists unknowns built limits) (network_of_lists columns built limits) =
    ap (λ (us : List Unknown). (network_of_lists us built limits)) same in
    let second : ◌≡◌ {A = NetworkOf} (network_of_lists columns built limits) (network_on q points columns built) =
    ap (λ (ls : List LimitOf). (network_of_lists columns built ls)) given in
    first
    ∙ second
    ∙ ap (network_on q points columns) made
    ∙ ap (λ (us : List Unknown). network_on q points us (map (candidate_of points us) candidates)) numbered

-- its fault from the counts
pub fault-is : (points : List PointRecord) (candidates : List CandidateRecord) (columns : List Unknown) (unknowns rows : ℕ)
    → columns ≡ unknowns_of points candidates → unknowns ≡ length columns → ((p : List PointRecord) (us : List Unknown) → rows ≡ row_count p us candidates)
    → count_fault unknowns rows ≡ network_fault points candidates
unfolding network_fault
fault-is points candidates columns unknowns rows numbered count each =
    ap₂ count_fault (count ∙ ap length numbered) (each points (unknowns_of points candidates))

pub no-rows : (points : List PointRecord) (unknowns : List Unknown) → 0 ≡ row_count points unknowns []
unfolding row_count
no-rows points unknowns = refl

-- ---- the limits where q is 0, and where it is not

pub limits-none : (q : ℕ) (points : List PointRecord) (unknowns : List Unknown) (candidates : List CandidateOf) → q ≡ 0 → point_limits points unknowns ≡ limits_of q points unknowns candidates
unfolding limits_of
limits-none q points unknowns candidates e = rw e (sym (append-nil (point_limits points unknowns)))

pub limits-some : (q : ℕ) (points : List PointRecord) (unknowns : List Unknown) (candidates : List CandidateOf) → q ≢ 0
    → point_limits points unknowns ++ redundancy_limits q candidates ≡ limits_of q points unknowns candidates
unfolding limits_of
limits-some q points unknowns candidates other = let e : eqb q 0 ≡ false = grind (arith, nat_tests) in rw e refl
