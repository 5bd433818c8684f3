-- The unknowns of a network differ, and there are at most four of each point.
use Rattle.std.proofs.Common.{◌≡◌, ◌+◌, ◌*◌, ◌<◌, ◌≤◌, ℕ, Bool, true, false, List, [], ◌∷◌, ◌++◌, length, refl, arith, eqb, length-append}
use Rattle.std.specs.Prelude.{◌&&◌, if◌then◌else◌}
use Rattle.std.specs.List.{AllByRecursion, IsDistinct, enumerate_from, flat_map}
use Rattle.std.proofs.lemmas.Bool.Decides.{nat_tests}
use Rattle.geo_model.specs.declared.network.Component.{Component}
use Rattle.geo_model.specs.declared.network.Component.TheVariants as component
use Rattle.geo_model.specs.declared.network.Unknown.{Unknown}
use Rattle.point_tables.specs.declared.record.PointRecord.{PointRecord}
use Rattle.candidate_tables.specs.declared.record.CandidateRecord.{CandidateRecord}
use Rattle.design_rows.specs.Bounds.{AreUnknowns}
use Rattle.design_rows.specs.Unknowns.{coordinates, is_new, is_same, is_same_component, is_oriented, orientation, unknown, unknowns_of}

-- ---- lists

pub every-append : {A : Type 0} (P : A → Type 0) (xs ys : List A) → AllByRecursion P xs → AllByRecursion P ys → AllByRecursion P (xs ++ ys)
every-append P [] ys a b = b
every-append P (x ∷ xs) ys a b = (a.0, every-append P xs ys a.1 b)

pub every-weaker : {A : Type 0} (P Q : A → Type 0) → ((x : A) → P x → Q x) → (xs : List A) → AllByRecursion P xs → AllByRecursion Q xs
every-weaker P Q f [] a = tt
every-weaker P Q f (x ∷ xs) a = (f x a.0, every-weaker P Q f xs a.1)

pub distinct-append : (xs ys : List Unknown) → IsDistinct is_same xs → IsDistinct is_same ys → AllByRecursion (λ x. AllByRecursion (λ y. is_same x y ≡ false) ys) xs
    → IsDistinct is_same (xs ++ ys)
unfolding IsDistinct
distinct-append [] ys a b cross = b
distinct-append (x ∷ xs) ys a b cross = (every-append (λ y. is_same x y ≡ false) xs ys a.0 cross.0, distinct-append xs ys a.1 b cross.1)

-- ---- unknowns that differ

pub and-right : (a b : Bool) → b ≡ false → (a && b) ≡ false
and-right true b e = e
and-right false b e = refl

and-left : (a b : Bool) → a ≡ false → (a && b) ≡ false
and-left true b e = absurd (cc e)
and-left false b e = refl

other-number : (m n : ℕ) → m < n → eqb m n ≡ false
other-number m n less = grind (arith, nat_tests)

other-point : (u v : Unknown) → u.point < v.point → is_same u v ≡ false
other-point u v less = and-right (is_same_component u.component v.component) (eqb u.point v.point) (other-number u.point v.point less)

-- what is numbered by the points of a table
module _ (f : ℕ × PointRecord → List Unknown) where
  -- what holds of those of each point holds of all
  pub every-numbered : (P : Unknown → Type 0) → ((k : ℕ) (point : PointRecord) → AllByRecursion P (f (k, point)))
      → (n : ℕ) (points : List PointRecord) → AllByRecursion P (flat_map f (enumerate_from n points))
  every-numbered P each n [] = tt
  every-numbered P each n (point ∷ points) = every-append P (f (n, point)) (flat_map f (enumerate_from (n + 1) points)) (each n point) (every-numbered P each (n + 1) points)

  from-number : ((k : ℕ) (point : PointRecord) → AllByRecursion (λ u. u.point ≡ k) (f (k, point)))
      → (low n : ℕ) (points : List PointRecord) → low ≤ n → AllByRecursion (λ u. low ≤ u.point) (flat_map f (enumerate_from n points))
  from-number each low n [] le = tt
  from-number each low n (point ∷ points) le =
      every-append (λ u. low ≤ u.point) (f (n, point)) (flat_map f (enumerate_from (n + 1) points))
      (every-weaker (λ (u : Unknown). u.point ≡ n) (λ (u : Unknown). low ≤ u.point) (λ u e. omega arith) (f (n, point)) (each n point))
      (from-number each low (n + 1) points (omega arith))

  pub numbered-apart : ((k : ℕ) (point : PointRecord) → AllByRecursion (λ u. u.point ≡ k) (f (k, point)))
      → ((k : ℕ) (point : PointRecord) → IsDistinct is_same (f (k, point)))
      → (n : ℕ) (points : List PointRecord) → IsDistinct is_same (flat_map f (enumerate_from n points))
  unfolding IsDistinct
  numbered-apart each own n [] = tt
  numbered-apart each own n (point ∷ points) =
      let rest = flat_map f (enumerate_from (n + 1) points) in
      let later = from-number each (n + 1) (n + 1) points (omega arith) in
      distinct-append (f (n, point)) rest (own n point) (numbered-apart each own (n + 1) points)
      (every-weaker (λ (u : Unknown). u.point ≡ n) (λ (u : Unknown). AllByRecursion (λ v. is_same u v ≡ false) rest)
      (λ u e. every-weaker (λ (v : Unknown). n + 1 ≤ v.point) (λ (v : Unknown). is_same u v ≡ false) (λ v le. other-point u v (omega arith)) rest later)
      (f (n, point)) (each n point))

  pub numbered-few : (most : ℕ) → ((k : ℕ) (point : PointRecord) → length (f (k, point)) ≤ most)
      → (n : ℕ) (points : List PointRecord) → length (flat_map f (enumerate_from n points)) ≤ length points * most
  numbered-few most each n [] = omega arith
  numbered-few most each n (point ∷ points) =
      let here = each n point in
      let rest = numbered-few most each (n + 1) points in
      let both = length-append (f (n, point)) (flat_map f (enumerate_from (n + 1) points)) in
      grind arith

-- ---- the coordinates of a point

is_turn : Component → Bool
is_turn component.X = false
is_turn component.Y = false
is_turn component.Z = false
is_turn component.Turn = true

-- those of a point by whether its parts are new
by_parts : Bool → Bool → ℕ → List Unknown
by_parts plane height k =
    (if plane then unknown k component.X ∷ unknown k component.Y ∷ [] else []) ++ (if height then unknown k component.Z ∷ [] else [])

parts-at : (plane height : Bool) (k : ℕ) → AllByRecursion (λ u. u.point ≡ k) (by_parts plane height k)
unfolding by_parts
parts-at true true k = (refl, (refl, (refl, tt)))
parts-at true false k = (refl, (refl, tt))
parts-at false true k = (refl, tt)
parts-at false false k = tt

parts-steady : (plane height : Bool) (k : ℕ) → AllByRecursion (λ u. is_turn u.component ≡ false) (by_parts plane height k)
unfolding by_parts is_turn
parts-steady true true k = (refl, (refl, (refl, tt)))
parts-steady true false k = (refl, (refl, tt))
parts-steady false true k = (refl, tt)
parts-steady false false k = tt

parts-apart : (plane height : Bool) (k : ℕ) → IsDistinct is_same (by_parts plane height k)
unfolding by_parts IsDistinct
parts-apart true true k = ((refl, (refl, tt)), ((refl, tt), (tt, tt)))
parts-apart true false k = ((refl, tt), (tt, tt))
parts-apart false true k = (tt, tt)
parts-apart false false k = tt

parts-few : (plane height : Bool) (k : ℕ) → length (by_parts plane height k) ≤ 3
unfolding by_parts
parts-few true true k = omega arith
parts-few true false k = omega arith
parts-few false true k = omega arith
parts-few false false k = omega arith

coordinates-are : (k : ℕ) (point : PointRecord) → coordinates (k, point) ≡ by_parts (is_new point.plane) (is_new point.height) k
unfolding by_parts
coordinates-are k point = refl

-- ---- the orientation of a point

by_station : Bool → ℕ → List Unknown
by_station station k = if station then unknown k component.Turn ∷ [] else []

station-at : (station : Bool) (k : ℕ) → AllByRecursion (λ u. u.point ≡ k) (by_station station k)
unfolding by_station
station-at true k = (refl, tt)
station-at false k = tt

station-turns : (station : Bool) (k : ℕ) → AllByRecursion (λ u. is_turn u.component ≡ true) (by_station station k)
unfolding by_station is_turn
station-turns true k = (refl, tt)
station-turns false k = tt

station-apart : (station : Bool) (k : ℕ) → IsDistinct is_same (by_station station k)
unfolding by_station IsDistinct
station-apart true k = (tt, tt)
station-apart false k = tt

station-few : (station : Bool) (k : ℕ) → length (by_station station k) ≤ 1
unfolding by_station
station-few true k = omega arith
station-few false k = omega arith

orientation-is : (candidates : List CandidateRecord) (k : ℕ) (point : PointRecord) → orientation candidates (k, point) ≡ by_station (is_oriented candidates k) k
unfolding by_station
orientation-is candidates k point = refl

-- ---- all unknowns

turn-differs : (a b : Component) → is_turn a ≡ false → is_turn b ≡ true → is_same_component a b ≡ false
unfolding is_turn
turn-differs component.X component.Turn e f = refl
turn-differs component.Y component.Turn e f = refl
turn-differs component.Z component.Turn e f = refl
turn-differs component.Turn b e f = absurd (cc e)
turn-differs a component.X e f = absurd (cc f)
turn-differs a component.Y e f = absurd (cc f)
turn-differs a component.Z e f = absurd (cc f)

pub unknowns-differ : (points : List PointRecord) (candidates : List CandidateRecord) → IsDistinct is_same (unknowns_of points candidates)
unfolding unknowns_of
unknowns-differ points candidates =
    let places = flat_map coordinates (enumerate_from 0 points) in
    let turns = flat_map (orientation candidates) (enumerate_from 0 points) in
    let steady = every-numbered coordinates (λ u. is_turn u.component ≡ false) (λ k point. rw (coordinates-are k point) (parts-steady (is_new point.plane) (is_new point.height) k)) 0 points in
    let turning = every-numbered (orientation candidates) (λ u. is_turn u.component ≡ true) (λ k point. rw (orientation-is candidates k point) (station-turns (is_oriented candidates k) k)) 0 points in
    distinct-append places turns
    (numbered-apart coordinates (λ k point. rw (coordinates-are k point) (parts-at (is_new point.plane) (is_new point.height) k))
    (λ k point. rw (coordinates-are k point) (parts-apart (is_new point.plane) (is_new point.height) k)) 0 points)
    (numbered-apart (orientation candidates) (λ k point. rw (orientation-is candidates k point) (station-at (is_oriented candidates k) k))
    (λ k point. rw (orientation-is candidates k point) (station-apart (is_oriented candidates k) k)) 0 points)
    (every-weaker (λ (u : Unknown). is_turn u.component ≡ false) (λ (u : Unknown). AllByRecursion (λ v. is_same u v ≡ false) turns)
    (λ u e. every-weaker (λ (v : Unknown). is_turn v.component ≡ true) (λ (v : Unknown). is_same u v ≡ false)
    (λ v f. and-left (is_same_component u.component v.component) (eqb u.point v.point) (turn-differs u.component v.component e f)) turns turning)
    places steady)

pub unknowns-few : (points : List PointRecord) (candidates : List CandidateRecord) → length (unknowns_of points candidates) ≤ length points * 4
unfolding unknowns_of
unknowns-few points candidates =
    let places = flat_map coordinates (enumerate_from 0 points) in
    let turns = flat_map (orientation candidates) (enumerate_from 0 points) in
    let first = numbered-few coordinates 3 (λ k point. rw (coordinates-are k point) (parts-few (is_new point.plane) (is_new point.height) k)) 0 points in
    let second = numbered-few (orientation candidates) 1 (λ k point. rw (orientation-is candidates k point) (station-few (is_oriented candidates k) k)) 0 points in
    omega (arith, first, second, length-append places turns)

-- what the numbering keeps
pub are-unknowns : (points : List PointRecord) (candidates : List CandidateRecord) → length points ≤ 1000 → AreUnknowns (unknowns_of points candidates)
are-unknowns points candidates few = record {
  apart = unknowns-differ points candidates;
  few = omega (arith, unknowns-few points candidates);
}
