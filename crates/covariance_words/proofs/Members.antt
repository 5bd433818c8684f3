-- The limits of a network one by one: each is there, and what holds of each holds of all.
use Rattle.std.proofs.Common.{◌≡◌, ◌≢◌, ◌==◌, ◌+◌, ℕ, zero, suc, Bool, true, false, List, [], ◌∷◌, ◌++◌, map, Some, if◌then◌else◌, refl, sym, subst, arith, eqb-true, slice_get}
use Rattle.std.specs.Prelude.{All}
use Rattle.std.specs.List.{enumerate_from, flat_map}
use Rattle.std.proofs.lemmas.Bool.{eqb-false}
use Rattle.std.proofs.lemmas.Option.{none-some}
use Rattle.std.proofs.lemmas.List.Elements.{All-nil, All-cons, All-append}
use Rattle.geo_model.specs.declared.network.Component.TheVariants as component
use Rattle.geo_model.specs.declared.network.Unknown.{Unknown}
use Rattle.geo_model.specs.Row.{RowOf}
use Rattle.geo_model.specs.Candidate.{CandidateOf}
use Rattle.geo_model.specs.Limit.{LimitOf, IsInForce}
use Rattle.point_tables.specs.declared.part.Part.{Part}
use Rattle.point_tables.specs.declared.part.Part.TheVariants as part
use Rattle.point_tables.specs.declared.record.PointRecord.{PointRecord}
use Rattle.candidate_tables.specs.declared.record.CandidateRecord.{CandidateRecord}
use Rattle.design_rows.specs.Unknowns.{coordinates, height_coordinates, orientation, plane_coordinates, unknown, unknowns_of}
use Rattle.net_build.specs.Build.{axis_limit, height_limit, limits_of, limits_of_candidate, limits_of_part, limits_of_point, point_limits, redundancy_limit, redundancy_limits}

-- ---- lists

-- an element stands at some place of a list
abbrev pub IsIn : {X : Type 0} → List X → X → Type 0
IsIn xs y = (k : ℕ) × (slice_get xs k ≡ Some y)

pub IsIn-append_left : {X : Type 0} (xs ys : List X) (y : X) → IsIn xs y → IsIn (xs ++ ys) y
IsIn-append_left xs ys y is = by xs is.0 is.1
  where
    by : (l : List _) (k : ℕ) → slice_get l k ≡ Some y → (j : ℕ) × (slice_get (l ++ ys) j ≡ Some y)
    by [] k e = absurd (none-some y e)
    by (x ∷ l) zero e = (zero, e)
    by (x ∷ l) (suc k) e = let later = by l k e in (suc later.0, later.1)

pub IsIn-append_right : {X : Type 0} (xs ys : List X) (y : X) → IsIn ys y → IsIn (xs ++ ys) y
IsIn-append_right [] ys y is = is
IsIn-append_right (x ∷ xs) ys y is = let later = IsIn-append_right xs ys y is in (suc later.0, later.1)

pub IsIn-flat : {X Y : Type 0} (f : ℕ × X → List Y) (n k j : ℕ) (xs : List X) (x : X) (y : Y) → slice_get xs k ≡ Some x → j ≡ n + k → IsIn (f (j, x)) y
    → IsIn (flat_map f (enumerate_from n xs)) y
IsIn-flat f n k j [] x y at e is = absurd (none-some x at)
IsIn-flat f n zero j (z ∷ xs) x y at e is =
    let same : z ≡ x = cc at in
    let number : j ≡ n = omega arith in
    IsIn-append_left (f (n, z)) (flat_map f (enumerate_from (n + 1) xs)) y (subst (λ w. IsIn (f (n, w)) y) (sym same) (subst (λ i. IsIn (f (i, x)) y) number is))
IsIn-flat f n (suc k) j (z ∷ xs) x y at e is =
    IsIn-append_right (f (n, z)) (flat_map f (enumerate_from (n + 1) xs)) y (IsIn-flat f (n + 1) k j xs x y at (omega arith) is)

pub IsIn-map : {X Y : Type 0} (f : ℕ × X → Y) (n k j : ℕ) (xs : List X) (x : X) → slice_get xs k ≡ Some x → j ≡ n + k → IsIn (map f (enumerate_from n xs)) (f (j, x))
IsIn-map f n k j [] x at e = absurd (none-some x at)
IsIn-map f n zero j (z ∷ xs) x at e =
    let same : z ≡ x = cc at in
    let number : n ≡ j = omega arith in
    (zero, subst (λ i. Some (f (n, z)) ≡ Some (f (i, x))) number (subst (λ w. Some (f (n, z)) ≡ Some (f (n, w))) same refl))
IsIn-map f n (suc k) j (z ∷ xs) x at e = let later = IsIn-map f (n + 1) k j xs x at (omega arith) in (suc later.0, later.1)

pub All-places : {X Y : Type 0} (P : Y → Type 0) (f : ℕ × X → List Y) (n : ℕ) (xs : List X)
    → ((k j : ℕ) (x : X) → slice_get xs k ≡ Some x → j ≡ n + k → All P (f (j, x))) → All P (flat_map f (enumerate_from n xs))
All-places P f n [] each = All-nil P
All-places P f n (x ∷ xs) each =
    All-append P (f (n, x)) (flat_map f (enumerate_from (n + 1) xs)) (each zero n x refl (omega arith))
    (All-places P f (n + 1) xs (λ k j y at e. each (suc k) j y at (omega arith)))

pub All-mapped : {X Y : Type 0} (P : Y → Type 0) (f : ℕ × X → Y) (n : ℕ) (xs : List X)
    → ((k j : ℕ) (x : X) → slice_get xs k ≡ Some x → j ≡ n + k → P (f (j, x))) → All P (map f (enumerate_from n xs))
All-mapped P f n [] each = All-nil P
All-mapped P f n (x ∷ xs) each =
    All-cons P (f (n, x)) (map f (enumerate_from (n + 1) xs)) (each zero n x refl (omega arith))
    (All-mapped P f (n + 1) xs (λ k j y at e. each (suc k) j y at (omega arith)))

-- ---- the unknowns of new points
module _ (points : List PointRecord) (candidates : List CandidateRecord) (place s : ℕ) (point : PointRecord) (at : slice_get points place ≡ Some point) where
  from-coordinates : (u : Unknown) → IsIn (coordinates (place, point)) u → IsIn (unknowns_of points candidates) u
  unfolding unknowns_of
  from-coordinates u is =
      IsIn-append_left (flat_map coordinates (enumerate_from 0 points)) (flat_map (orientation candidates) (enumerate_from 0 points)) u
      (IsIn-flat coordinates 0 place place points point u at (omega arith) is)

  pub x-there : point.plane ≡ part.New s → IsIn (unknowns_of points candidates) (unknown place component.X)
  x-there new =
      from-coordinates (unknown place component.X) (IsIn-append_left (plane_coordinates place point.plane) (height_coordinates place point.height) (unknown place component.X)
      (subst (λ p. IsIn (plane_coordinates place p) (unknown place component.X)) (sym new) (0, refl)))

  pub y-there : point.plane ≡ part.New s → IsIn (unknowns_of points candidates) (unknown place component.Y)
  y-there new =
      from-coordinates (unknown place component.Y) (IsIn-append_left (plane_coordinates place point.plane) (height_coordinates place point.height) (unknown place component.Y)
      (subst (λ p. IsIn (plane_coordinates place p) (unknown place component.Y)) (sym new) (1, refl)))

  pub z-there : point.height ≡ part.New s → IsIn (unknowns_of points candidates) (unknown place component.Z)
  z-there new =
      from-coordinates (unknown place component.Z) (IsIn-append_right (plane_coordinates place point.plane) (height_coordinates place point.height) (unknown place component.Z)
      (subst (λ p. IsIn (height_coordinates place p) (unknown place component.Z)) (sym new) (0, refl)))

-- ---- each limit is there
owned_there : (q : ℕ) (list : List LimitOf) (limit : LimitOf) → q ≢ 0 → IsIn list limit → IsIn (if q == 0 then [] else list) limit
owned_there q list limit some is = by (q == 0) refl
  where
    by : (t : Bool) → (q == 0) ≡ t → IsIn (if t then [] else list) limit
    by true e = absurd (some (eqb-true q 0 e))
    by false e = is

module _ (q : ℕ) (points : List PointRecord) (unknowns : List Unknown) (built : List CandidateOf) where
  -- the limits of the redundancies, where there are any
  owned : List LimitOf
  owned = if q == 0 then [] else redundancy_limits q built

  from-point : (place : ℕ) (point : PointRecord) (limit : LimitOf) → slice_get points place ≡ Some point
      → IsIn (limits_of_point unknowns (place, point)) limit → IsIn (limits_of q points unknowns built) limit
  unfolding limits_of point_limits
  from-point place point limit at is =
      IsIn-append_left (point_limits points unknowns) (if q == 0 then [] else redundancy_limits q built) limit
      (IsIn-flat (limits_of_point unknowns) 0 place place points point limit at (omega arith) is)

  pub axis-there : (place s : ℕ) (point : PointRecord) → slice_get points place ≡ Some point → point.plane ≡ part.New s
      → IsIn (limits_of q points unknowns built) (axis_limit unknowns place s)
  unfolding limits_of_point
  axis-there place s point at new =
      from-point place point (axis_limit unknowns place s) at
      (IsIn-append_left (limits_of_part (axis_limit unknowns place) point.plane) (limits_of_part (height_limit unknowns place) point.height) (axis_limit unknowns place s)
      (subst (λ p. IsIn (limits_of_part (axis_limit unknowns place) p) (axis_limit unknowns place s)) (sym new) (0, refl)))

  pub height-there : (place s : ℕ) (point : PointRecord) → slice_get points place ≡ Some point → point.height ≡ part.New s
      → IsIn (limits_of q points unknowns built) (height_limit unknowns place s)
  unfolding limits_of_point
  height-there place s point at new =
      from-point place point (height_limit unknowns place s) at
      (IsIn-append_right (limits_of_part (axis_limit unknowns place) point.plane) (limits_of_part (height_limit unknowns place) point.height) (height_limit unknowns place s)
      (subst (λ p. IsIn (limits_of_part (height_limit unknowns place) p) (height_limit unknowns place s)) (sym new) (0, refl)))

  pub redundancy-there : (owner k : ℕ) (candidate : CandidateOf) (row : RowOf) → q ≢ 0 → slice_get built owner ≡ Some candidate → slice_get candidate.rows k ≡ Some row
      → IsIn (limits_of q points unknowns built) (redundancy_limit q owner (k, row))
  unfolding limits_of redundancy_limits limits_of_candidate
  redundancy-there owner k candidate row some at at_row =
      IsIn-append_right (point_limits points unknowns) (if q == 0 then [] else redundancy_limits q built) (redundancy_limit q owner (k, row))
      (owned_there q (redundancy_limits q built) (redundancy_limit q owner (k, row)) some
      (IsIn-flat (limits_of_candidate q) 0 owner owner built candidate (redundancy_limit q owner (k, row)) at (omega arith)
      (IsIn-map (redundancy_limit q owner) 0 k k candidate.rows row at_row (omega arith))))

  -- ---- and what holds of each holds of all
  part-all : (P : LimitOf → Type 0) (limit_of : ℕ → LimitOf) (given : Part) → ((s : ℕ) → given ≡ part.New s → P (limit_of s)) → All P (limits_of_part limit_of given)
  part-all P limit_of part.Absent each = All-nil P
  part-all P limit_of part.Fixed each = All-nil P
  part-all P limit_of (part.New s) each = All-cons P (limit_of s) [] (each s refl) (All-nil P)

  owned-all : (P : LimitOf → Type 0) (list : List LimitOf) → (q ≢ 0 → All P list) → All P (if q == 0 then [] else list)
  owned-all P list each = by (q == 0) refl
    where
      by : (t : Bool) → (q == 0) ≡ t → All P (if t then [] else list)
      by true e = All-nil P
      by false e = each (eqb-false q 0 e)

  pub limits-all : (P : LimitOf → Type 0)
      → ((place s : ℕ) (point : PointRecord) → slice_get points place ≡ Some point → point.plane ≡ part.New s → P (axis_limit unknowns place s))
      → ((place s : ℕ) (point : PointRecord) → slice_get points place ≡ Some point → point.height ≡ part.New s → P (height_limit unknowns place s))
      → ((owner k : ℕ) (candidate : CandidateOf) (row : RowOf) → q ≢ 0 → slice_get built owner ≡ Some candidate → slice_get candidate.rows k ≡ Some row → P (redundancy_limit q owner (k, row)))
      → All P (limits_of q points unknowns built)
  unfolding limits_of point_limits limits_of_point redundancy_limits limits_of_candidate
  limits-all P axes heights redundancies =
      All-append P (point_limits points unknowns) (if q == 0 then [] else redundancy_limits q built)
      (All-places P (limits_of_point unknowns) 0 points (λ k place point at e.
      let here : slice_get points place ≡ Some point = moved points k place point at e in
      All-append P (limits_of_part (axis_limit unknowns place) point.plane) (limits_of_part (height_limit unknowns place) point.height)
      (part-all P (axis_limit unknowns place) point.plane (λ s new. axes place s point here new))
      (part-all P (height_limit unknowns place) point.height (λ s new. heights place s point here new))))
      (owned-all P (redundancy_limits q built) (λ some. All-places P (limits_of_candidate q) 0 built (λ i owner candidate at e.
      All-mapped P (redundancy_limit q owner) 0 candidate.rows (λ j k row at_row f.
      redundancies owner k candidate row some (moved built i owner candidate at e) (moved candidate.rows j k row at_row f)))))
    where
      moved : {X : Type 0} (xs : List X) (k j : ℕ) (x : X) → slice_get xs k ≡ Some x → j ≡ 0 + k → slice_get xs j ≡ Some x
      moved xs k j x at e = let same : k ≡ j = omega arith in subst (λ i. slice_get xs i ≡ Some x) same at

-- ---- whether they are in force
pub axis-in_force : (unknowns : List Unknown) (place s : ℕ) (plan : List Bool) → IsInForce (axis_limit unknowns place s) plan
unfolding axis_limit
axis-in_force unknowns place s plan owner is = absurd (none-some owner is)

pub height-in_force : (unknowns : List Unknown) (place s : ℕ) (plan : List Bool) → IsInForce (height_limit unknowns place s) plan
unfolding height_limit
height-in_force unknowns place s plan owner is = absurd (none-some owner is)

pub redundancy-in_force : (q owner k : ℕ) (row : RowOf) (plan : List Bool) → slice_get plan owner ≡ Some true → IsInForce (redundancy_limit q owner (k, row)) plan
unfolding redundancy_limit
redundancy-in_force q owner k row plan chosen other is = let same : owner ≡ other = cc is in subst (λ i. slice_get plan i ≡ Some true) same chosen

pub redundancy-owner : (q owner k : ℕ) (row : RowOf) (plan : List Bool) → IsInForce (redundancy_limit q owner (k, row)) plan → slice_get plan owner ≡ Some true
unfolding redundancy_limit
redundancy-owner q owner k row plan force = force owner refl
