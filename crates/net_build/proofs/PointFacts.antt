-- The limits of the points: each is one of a network, at most one of them loads an unknown, and there are no more than unknowns.
use Rattle.std.proofs.Common.{◌≡◌, ◌≢◌, ◌∙◌, ◌+◌, ◌*◌, ◌<◌, ◌≤◌, ℕ, pos, ◌≤ℤ◌, Bool, true, false, cond, ◌&&◌, List, [], ◌∷◌, ◌++◌, Option, Some, None, length, refl, sym, ap, arith, eqb, eqb-true, slice_get, length-append}
use Rattle.std.specs.Prelude.{All, count_by, int_lt, if◌then◌else◌}
use Rattle.std.specs.List.{IsDistinct, enumerate_from, flat_map}
use Rattle.std.proofs.Math.Nat.{mul-le-mul}
use Rattle.std.proofs.lemmas.Bool.{eqb-false, false≢true}
use Rattle.std.proofs.lemmas.Int.{ints}
use Rattle.std.proofs.lemmas.Option.{none-some}
use Rattle.std.proofs.lemmas.List.Elements.{All-nil, All-cons, All-append}
use Rattle.std.proofs.lemmas.List.Sums.{sum_by-append, count_by-le-length}
use Rattle.geo_model.specs.declared.network.Component.{Component}
use Rattle.geo_model.specs.declared.network.Component.TheVariants as component
use Rattle.geo_model.specs.declared.network.Unknown.{Unknown}
use Rattle.geo_model.specs.Row.{unit_at}
use Rattle.geo_model.specs.Limit.{LimitOf, is_point_limit, load}
use Rattle.geo_model.specs.Network.{IsLimit, NetworkOf}
use Rattle.point_tables.specs.declared.part.Part.{Part}
use Rattle.point_tables.specs.declared.part.Part.TheVariants as part
use Rattle.point_tables.specs.declared.record.PointRecord.{PointRecord}
use Rattle.point_tables.specs.Accepted.{IsAccepted, IsPart}
use Rattle.candidate_tables.specs.declared.record.CandidateRecord.{CandidateRecord}
use Rattle.design_rows.specs.Unknowns.{coordinates, is_new, is_same, orientation, unknown, unknowns_of}
use Rattle.net_build.specs.Build.{axis_limit, height_limit, limits_of_part, limits_of_point, point_limits, square_on}
use Rattle.net_build.proofs.ListFacts.{All-parts, count-none}
use Rattle.net_build.proofs.SquareFacts.{IsUnit, form-elsewhere, square-unit, unit-load}

-- ---- each is a limit of a network

pub part-each : (P : LimitOf → Type 0) (limit_of : ℕ → LimitOf) (given : Part) → IsPart given → ((s : ℕ) → 1 ≤ s → s ≤ 1000 → P (limit_of s)) → All P (limits_of_part limit_of given)
part-each P limit_of part.Absent is each = All-nil P
part-each P limit_of part.Fixed is each = All-nil P
part-each P limit_of (part.New s) is each = let bounds = is s refl in All-cons P (limit_of s) [] (each s bounds.0 bounds.1) (All-nil P)

square-low : (s : ℕ) → 1 ≤ s → pos 1 ≤ℤ pos (s * s)
square-low s least = let h : 1 * 1 ≤ s * s = mul-le-mul least least in omega (arith, ints)

square-high : (s : ℕ) → s ≤ 1000 → pos (s * s) ≤ℤ pos 1000000
square-high s most = let h : s * s ≤ 1000 * 1000 = mul-le-mul most most in omega (arith, ints)

pub axis-bounded : (network : NetworkOf) → IsDistinct is_same network.unknowns → (place s : ℕ) → 1 ≤ s → s ≤ 1000 → IsLimit network (axis_limit network.unknowns place s)
unfolding axis_limit
axis-bounded network apart place s least most =
    let us = network.unknowns in
    let n = length us in
    let x = square_on us (unknown place component.X) in
    let y = square_on us (unknown place component.Y) in
    record {
      bounded = unit-load n network.candidates (pos (s * s)) (x ∷ y ∷ []) (square-low s least) (square-high s most) (omega arith)
          (All-cons (IsUnit n) x (y ∷ []) (square-unit us (unknown place component.X) apart)
          (All-cons (IsUnit n) y [] (square-unit us (unknown place component.Y) apart) (All-nil (IsUnit n))));
      owner = λ owner is. absurd (none-some owner is);
      unowned = λ point. refl;
    }

pub height-bounded : (network : NetworkOf) → IsDistinct is_same network.unknowns → (place s : ℕ) → 1 ≤ s → s ≤ 1000 → IsLimit network (height_limit network.unknowns place s)
unfolding height_limit
height-bounded network apart place s least most =
    let us = network.unknowns in
    let n = length us in
    let z = square_on us (unknown place component.Z) in
    record {
      bounded = unit-load n network.candidates (pos (s * s)) (z ∷ []) (square-low s least) (square-high s most) (omega arith)
          (All-cons (IsUnit n) z [] (square-unit us (unknown place component.Z) apart) (All-nil (IsUnit n)));
      owner = λ owner is. absurd (none-some owner is);
      unowned = λ point. refl;
    }

pub points-bounded : (network : NetworkOf) (points : List PointRecord) → IsDistinct is_same network.unknowns → All IsAccepted points
    → All (IsLimit network) (point_limits points network.unknowns)
unfolding point_limits limits_of_point
points-bounded network points apart all =
    All-parts (IsLimit network) IsAccepted (limits_of_point network.unknowns) (length points) 0 points
    (λ place point within is. All-append (IsLimit network) (limits_of_part (axis_limit network.unknowns place) point.plane) (limits_of_part (height_limit network.unknowns place) point.height)
    (part-each (IsLimit network) (axis_limit network.unknowns place) point.plane is.plane (axis-bounded network apart place))
    (part-each (IsLimit network) (height_limit network.unknowns place) point.height is.height (height-bounded network apart place)))
    (omega arith) all

-- ---- at most one loads an unknown

-- whether a limit of a point loads the unknown of this number
abbrev pub loads : ℕ → LimitOf → Bool
loads i limit = is_point_limit limit.kind && int_lt (pos 0) (load limit.squares (unit_at i))

-- no other unknown has this number
abbrev pub IsOnly : List Unknown → ℕ → Unknown → Type 0
IsOnly unknowns i w = (u : Unknown) → slice_get unknowns i ≡ Some u → u ≡ w

-- whether a component is one of the plane
abbrev is_plane : Component → Bool
is_plane component.X = true
is_plane component.Y = true
is_plane component.Z = false
is_plane component.Turn = false

axis-elsewhere : (unknowns : List Unknown) (i place s : ℕ) → slice_get unknowns i ≢ Some (unknown place component.X) → slice_get unknowns i ≢ Some (unknown place component.Y)
    → loads i (axis_limit unknowns place s) ≡ false
unfolding axis_limit square_on
axis-elsewhere unknowns i place s away_x away_y =
    rw (form-elsewhere unknowns (unknown place component.X) i away_x, form-elsewhere unknowns (unknown place component.Y) i away_y) refl

height-elsewhere : (unknowns : List Unknown) (i place s : ℕ) → slice_get unknowns i ≢ Some (unknown place component.Z) → loads i (height_limit unknowns place s) ≡ false
unfolding height_limit square_on
height-elsewhere unknowns i place s away = rw (form-elsewhere unknowns (unknown place component.Z) i away) refl

none-of : (test : LimitOf → Bool) (limit_of : ℕ → LimitOf) (given : Part) → ((s : ℕ) → test (limit_of s) ≡ false) → count_by test (limits_of_part limit_of given) ≡ 0
none-of test limit_of part.Absent none = refl
none-of test limit_of part.Fixed none = refl
none-of test limit_of (part.New s) none = count-none test (limit_of s ∷ []) (All-cons (λ l. test l ≡ false) (limit_of s) [] (none s) (All-nil (λ l. test l ≡ false)))

part-short : (limit_of : ℕ → LimitOf) (given : Part) → length (limits_of_part limit_of given) ≤ 1
part-short limit_of part.Absent = omega arith
part-short limit_of part.Fixed = omega arith
part-short limit_of (part.New s) = omega arith

one-of : (test : LimitOf → Bool) (limit_of : ℕ → LimitOf) (given : Part) → count_by test (limits_of_part limit_of given) ≤ 1
one-of test limit_of given = omega (arith, count_by-le-length test (limits_of_part limit_of given), part-short limit_of given)

-- an unknown is not where only another one may be
away-by : {A : Type 0} (f : Unknown → A) (unknowns : List Unknown) (i : ℕ) (w u : Unknown) → IsOnly unknowns i w → f u ≢ f w → slice_get unknowns i ≢ Some u
away-by f unknowns i w u only other at = other (ap f (only u at))

count-both : (test : LimitOf → Bool) (xs ys : List LimitOf) → count_by test (xs ++ ys) ≡ count_by test xs + count_by test ys
count-both test xs ys = sum_by-append (λ (l : LimitOf). cond (test l) 1 0) xs ys

point-one : (unknowns : List Unknown) (i : ℕ) (w : Unknown) (place : ℕ) (point : PointRecord) → IsOnly unknowns i w → count_by (loads i) (limits_of_point unknowns (place, point)) ≤ 1
unfolding limits_of_point
point-one unknowns i w place point only =
    let axes = limits_of_part (axis_limit unknowns place) point.plane in
    let heights = limits_of_part (height_limit unknowns place) point.height in
    let both = count-both (loads i) axes heights in
    let some = one-of (loads i) (axis_limit unknowns place) point.plane in
    let more = one-of (loads i) (height_limit unknowns place) point.height in
    by (is_plane w.component) refl (count_by (loads i) axes) (count_by (loads i) heights) (count_by (loads i) (axes ++ heights)) both some more
    (λ e. none-of (loads i) (height_limit unknowns place) point.height (λ s. height-elsewhere unknowns i place s
    (away-by (λ u. is_plane u.component) unknowns i w (unknown place component.Z) only (λ f. false≢true (f ∙ e)))))
    (λ e. none-of (loads i) (axis_limit unknowns place) point.plane (λ s. axis-elsewhere unknowns i place s
    (away-by (λ u. is_plane u.component) unknowns i w (unknown place component.X) only (λ f. false≢true (sym (f ∙ e))))
    (away-by (λ u. is_plane u.component) unknowns i w (unknown place component.Y) only (λ f. false≢true (sym (f ∙ e))))))
  where
    by : (t : Bool) → is_plane w.component ≡ t → (a b all : ℕ) → all ≡ a + b → a ≤ 1 → b ≤ 1 → (is_plane w.component ≡ true → b ≡ 0) → (is_plane w.component ≡ false → a ≡ 0) → all ≤ 1
    by true e a b all sum few more no_height no_axis = let none = no_height e in omega arith
    by false e a b all sum few more no_height no_axis = let none = no_axis e in omega arith

point-none : (unknowns : List Unknown) (i : ℕ) (w : Unknown) (place : ℕ) (point : PointRecord) → IsOnly unknowns i w → place ≢ w.point
    → count_by (loads i) (limits_of_point unknowns (place, point)) ≡ 0
unfolding limits_of_point
point-none unknowns i w place point only other =
    let axes = limits_of_part (axis_limit unknowns place) point.plane in
    let heights = limits_of_part (height_limit unknowns place) point.height in
    let both = count-both (loads i) axes heights in
    let no_axis = none-of (loads i) (axis_limit unknowns place) point.plane (λ s. axis-elsewhere unknowns i place s
    (away-by (λ u. u.point) unknowns i w (unknown place component.X) only other)
    (away-by (λ u. u.point) unknowns i w (unknown place component.Y) only other)) in
    let no_height = none-of (loads i) (height_limit unknowns place) point.height (λ s. height-elsewhere unknowns i place s
    (away-by (λ u. u.point) unknowns i w (unknown place component.Z) only other)) in
    both ∙ rw (no_axis, no_height) refl

points-none : (unknowns : List Unknown) (i : ℕ) (w : Unknown) (n : ℕ) (points : List PointRecord) → IsOnly unknowns i w → w.point < n
    → count_by (loads i) (flat_map (limits_of_point unknowns) (enumerate_from n points)) ≡ 0
points-none unknowns i w n [] only before = refl
points-none unknowns i w n (point ∷ points) only before =
    let here = point-none unknowns i w n point only (λ e. let f : n ≡ w.point = e in absurd (omega arith)) in
    let rest = points-none unknowns i w (n + 1) points only (omega arith) in
    count-both (loads i) (limits_of_point unknowns (n, point)) (flat_map (limits_of_point unknowns) (enumerate_from (n + 1) points)) ∙ rw (here, rest) refl

points-one : (unknowns : List Unknown) (i : ℕ) (w : Unknown) (n : ℕ) (points : List PointRecord) → IsOnly unknowns i w
    → count_by (loads i) (flat_map (limits_of_point unknowns) (enumerate_from n points)) ≤ 1
points-one unknowns i w n [] only = omega arith
points-one unknowns i w n (point ∷ points) only =
    let rest = flat_map (limits_of_point unknowns) (enumerate_from (n + 1) points) in
    by (eqb n w.point) refl (count_by (loads i) (limits_of_point unknowns (n, point))) (count_by (loads i) rest) _
    (count-both (loads i) (limits_of_point unknowns (n, point)) rest)
    (point-one unknowns i w n point only) (points-one unknowns i w (n + 1) points only)
    (λ same. points-none unknowns i w (n + 1) points only (omega arith)) (λ other. point-none unknowns i w n point only other)
  where
    by : (t : Bool) → eqb n w.point ≡ t → (a b all : ℕ) → all ≡ a + b → a ≤ 1 → b ≤ 1 → (n ≡ w.point → b ≡ 0) → (n ≢ w.point → a ≡ 0) → all ≤ 1
    by true e a b all sum few more later here = let none = later (eqb-true n w.point e) in omega arith
    by false e a b all sum few more later here = let none = here (eqb-false n w.point e) in omega arith

pub one-limit : (unknowns : List Unknown) (points : List PointRecord) (i : ℕ) → count_by (loads i) (point_limits points unknowns) ≤ 1
unfolding point_limits
one-limit unknowns points i = by (slice_get unknowns i) (λ w only. points-one unknowns i w 0 points only) refl
  where
    by : {P : Type 0} (found : Option Unknown) → ((w : Unknown) → IsOnly unknowns i w → P) → slice_get unknowns i ≡ found → P
    by None go e = go (unknown 0 component.X) (λ u at. absurd (none-some u (sym e ∙ at)))
    by (Some w) go e = go w (λ u at. let same : Some w ≡ Some u = sym e ∙ at in cc)

-- ---- how many there are

part-count : (axis height : ℕ → LimitOf) (plane high : Part) (u v w : Unknown)
    → length (limits_of_part axis plane ++ limits_of_part height high) ≤ length ((if is_new plane then u ∷ v ∷ [] else []) ++ (if is_new high then w ∷ [] else []))
part-count axis height part.Absent part.Absent u v w = omega arith
part-count axis height part.Absent part.Fixed u v w = omega arith
part-count axis height part.Absent (part.New t) u v w = omega arith
part-count axis height part.Fixed part.Absent u v w = omega arith
part-count axis height part.Fixed part.Fixed u v w = omega arith
part-count axis height part.Fixed (part.New t) u v w = omega arith
part-count axis height (part.New s) part.Absent u v w = omega arith
part-count axis height (part.New s) part.Fixed u v w = omega arith
part-count axis height (part.New s) (part.New t) u v w = omega arith

point-count : (unknowns : List Unknown) (place : ℕ) (point : PointRecord) → length (limits_of_point unknowns (place, point)) ≤ length (coordinates (place, point))
unfolding limits_of_point
point-count unknowns place point =
    part-count (axis_limit unknowns place) (height_limit unknowns place) point.plane point.height (unknown place component.X) (unknown place component.Y) (unknown place component.Z)

coordinates-count : (unknowns : List Unknown) (n : ℕ) (points : List PointRecord)
    → length (flat_map (limits_of_point unknowns) (enumerate_from n points)) ≤ length (flat_map coordinates (enumerate_from n points))
coordinates-count unknowns n [] = omega arith
coordinates-count unknowns n (point ∷ points) =
    let rest = flat_map (limits_of_point unknowns) (enumerate_from (n + 1) points) in
    let others = flat_map coordinates (enumerate_from (n + 1) points) in
    omega (arith, length-append (limits_of_point unknowns (n, point)) rest, length-append (coordinates (n, point)) others, point-count unknowns n point, coordinates-count unknowns (n + 1) points)

pub points-count : (unknowns : List Unknown) (points : List PointRecord) (candidates : List CandidateRecord) → length (point_limits points unknowns) ≤ length (unknowns_of points candidates)
unfolding point_limits unknowns_of
points-count unknowns points candidates =
    omega (arith, coordinates-count unknowns 0 points, length-append (flat_map coordinates (enumerate_from 0 points)) (flat_map (orientation candidates) (enumerate_from 0 points)))
