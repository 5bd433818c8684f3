-- The rows of each kind of generated candidate are borne by the rest of a network with two vectors at each new point.
use Rattle.std.proofs.Common.{ℕ, List, [], ◌∷◌, arith, ℤ, pos, ◌+ℤ◌, ◌*ℤ◌, ◌≤ℤ◌}
use Rattle.std.specs.Prelude.{All}
use Rattle.std.proofs.lemmas.Int.{ints}
use Rattle.std.proofs.lemmas.List.Elements.{All-cons, All-nil}
use Rattle.whole_algebra.proofs.Order.{square_nonneg}
use Rattle.geo_model.specs.declared.network.Component.TheVariants as component
use Rattle.geo_model.specs.declared.network.Unknown.{Unknown}
use Rattle.geo_model.specs.Row.{Displaced, RowOf, row_energy}
use Rattle.geo_model.specs.Candidate.{candidate_energy}
use Rattle.point_tables.specs.declared.record.PointRecord.{PointRecord}
use Rattle.design_rows.specs.Equations.{angle_terms, difference_terms, direction_terms, distance_terms, equations_of, observed}
use Rattle.design_rows.specs.Rows.{row_of, rows_of}
use Rattle.net_build.specs.Build.{candidate_of}
use Rattle.gen_records.specs.Records.{angle_record, direction_record, distance_record, level_record, vector_record}
use Rattle.gen_feasible.proofs.Motions.{IsStill, height-some, height_square, heights, motion, plane-some, plane_square, planes}
use Rattle.gen_feasible.proofs.RowShares.{IsFar, angle-energy, direction-energy, distance-energy, level-energy, vector-energy, vector-x, vector-y, vector-z}
use Rattle.gen_feasible.proofs.Shares.{IsBorne, IsWhole, borne_by_heights, borne_by_partner, borne_by_planes, borne_in_heights, borne_in_planes}
use Rattle.gen_feasible.proofs.Sums.{row-some}

-- each row is borne at a displacement
abbrev pub AreBorne : ℤ → Displaced → List RowOf → Type 0
AreBorne whole x rows = All (λ row. IsBorne (row_energy row x) whole) rows

one : (whole : ℤ) (x : Displaced) (row : RowOf) → IsBorne (row_energy row x) whole → AreBorne whole x (row ∷ [])
one whole x row here = All-cons (λ row. IsBorne (row_energy row x) whole) row [] here (All-nil (λ row. IsBorne (row_energy row x) whole))

-- the energy of a candidate of one row
single : (e others : ℤ) → (e +ℤ pos 0) ≤ℤ others → e ≤ℤ others
single e others h = omega (arith, ints)

pair : (e f others : ℤ) → ((e +ℤ pos 0) +ℤ (f +ℤ pos 0)) ≤ℤ others → (e +ℤ f) ≤ℤ others
pair e f others h = omega (arith, ints)

swapped : (e f others : ℤ) → (e +ℤ f) ≤ℤ others → (f +ℤ e) ≤ℤ others
swapped e f others h = omega (arith, ints)

both_some : (a b : ℤ) → pos 0 ≤ℤ a → pos 0 ≤ℤ b → pos 0 ≤ℤ (a +ℤ b)
both_some a b h k = omega (arith, ints)

distance_room : (e part : ℤ) → pos 0 ≤ℤ part → e ≤ℤ (pos 62800000000 *ℤ part) → e ≤ℤ (pos 80000000000 *ℤ part)
distance_room e part some small = omega (arith, ints)

level_room : (e part : ℤ) → pos 0 ≤ℤ part → e ≤ℤ (pos 20000000000 *ℤ part) → e ≤ℤ (pos 35200000000 *ℤ part)
level_room e part some small = omega (arith, ints)

angle_room : (e part : ℤ) → pos 0 ≤ℤ part → e ≤ℤ (pos 9000000000 *ℤ part) → e ≤ℤ (pos 80000000000 *ℤ part)
angle_room e part some small = omega (arith, ints)

pub distance-borne : (points : List PointRecord) (unknowns : List Unknown) (x : Displaced) (seed price number a b : ℕ) (others whole : ℤ)
    → IsWhole (planes unknowns x) (heights unknowns x) others whole
    → candidate_energy (candidate_of points unknowns (distance_record seed price number a b)) x ≤ℤ others
    → (plane_square unknowns x a +ℤ plane_square unknowns x b) ≤ℤ planes unknowns x
    → AreBorne whole x (rows_of points unknowns (distance_record seed price number a b))
unfolding distance_record rows_of equations_of
distance-borne points unknowns x seed price number a b others whole is among within =
    let row = row_of unknowns (observed (distance_terms points a b) 800) in
    let part = plane_square unknowns x a +ℤ plane_square unknowns x b in
    one whole x row
    (borne_by_planes (row_energy row x) part (planes unknowns x) (heights unknowns x) others whole is (single (row_energy row x) others among) within
    (distance_room (row_energy row x) part (both_some (plane_square unknowns x a) (plane_square unknowns x b) (plane-some unknowns x a) (plane-some unknowns x b)) (distance-energy unknowns points a b x)))

pub level-borne : (points : List PointRecord) (unknowns : List Unknown) (x : Displaced) (seed price number a b : ℕ) (others whole : ℤ)
    → IsWhole (planes unknowns x) (heights unknowns x) others whole
    → candidate_energy (candidate_of points unknowns (level_record seed price number a b)) x ≤ℤ others
    → (height_square unknowns x a +ℤ height_square unknowns x b) ≤ℤ heights unknowns x
    → AreBorne whole x (rows_of points unknowns (level_record seed price number a b))
unfolding level_record rows_of equations_of
level-borne points unknowns x seed price number a b others whole is among within =
    let row = row_of unknowns (observed (difference_terms component.Z a b) 1000) in
    let part = height_square unknowns x a +ℤ height_square unknowns x b in
    one whole x row
    (borne_by_heights (row_energy row x) part (planes unknowns x) (heights unknowns x) others whole is (single (row_energy row x) others among) within
    (level_room (row_energy row x) part (both_some (height_square unknowns x a) (height_square unknowns x b) (height-some unknowns x a) (height-some unknowns x b)) (level-energy unknowns a b x)))

pub angle-borne : (points : List PointRecord) (unknowns : List Unknown) (x : Displaced) (seed price number a b c : ℕ) (others whole : ℤ)
    → IsWhole (planes unknowns x) (heights unknowns x) others whole
    → candidate_energy (candidate_of points unknowns (angle_record seed price number a b c)) x ≤ℤ others
    → plane_square unknowns x a ≤ℤ planes unknowns x
    → IsFar points a b → IsFar points a c → IsStill unknowns x b → IsStill unknowns x c
    → AreBorne whole x (rows_of points unknowns (angle_record seed price number a b c))
unfolding angle_record rows_of equations_of
angle-borne points unknowns x seed price number a b c others whole is among within far_b far_c still_b still_c =
    let row = row_of unknowns (observed (angle_terms points a b c) 1500) in
    one whole x row
    (borne_by_planes (row_energy row x) (plane_square unknowns x a) (planes unknowns x) (heights unknowns x) others whole is (single (row_energy row x) others among) within
    (angle_room (row_energy row x) (plane_square unknowns x a) (plane-some unknowns x a) (angle-energy unknowns points a b c x far_b far_c still_b still_c)))

-- a direction beside another one of its station
direction-row-borne : (points : List PointRecord) (unknowns : List Unknown) (x : Displaced) (a b c : ℕ) (others whole : ℤ)
    → IsWhole (planes unknowns x) (heights unknowns x) others whole
    → (row_energy (row_of unknowns (observed (direction_terms points a b) 1000)) x +ℤ row_energy (row_of unknowns (observed (direction_terms points a c) 1000)) x) ≤ℤ others
    → plane_square unknowns x a ≤ℤ planes unknowns x
    → IsFar points a b → IsFar points a c → IsStill unknowns x b → IsStill unknowns x c
    → AreBorne whole x (row_of unknowns (observed (direction_terms points a b) 1000) ∷ [])
direction-row-borne points unknowns x a b c others whole is among within far_b far_c still_b still_c =
    let row = row_of unknowns (observed (direction_terms points a b) 1000) in
    let partner = row_of unknowns (observed (direction_terms points a c) 1000) in
    one whole x row
    (borne_by_partner (row_energy row x) (row_energy partner x) (plane_square unknowns x a) (planes unknowns x) (heights unknowns x) others whole is
    (row-some unknowns (observed (direction_terms points a c) 1000) x) among within (direction-energy unknowns points a b c x far_b far_c still_b still_c))

-- what two directions of a station have together
abbrev pub AreAmong : List PointRecord → List Unknown → Displaced → ℕ → ℕ → ℕ → ℕ → ℕ → ℕ → ℕ → ℕ → ℤ → Type 0
AreAmong points unknowns x seed price number price' number' a b c others =
    (candidate_energy (candidate_of points unknowns (direction_record seed price number a b)) x
    +ℤ candidate_energy (candidate_of points unknowns (direction_record seed price' number' a c)) x) ≤ℤ others

pub first-direction-borne : (points : List PointRecord) (unknowns : List Unknown) (x : Displaced) (seed price number price' number' a b c : ℕ) (others whole : ℤ)
    → IsWhole (planes unknowns x) (heights unknowns x) others whole
    → AreAmong points unknowns x seed price number price' number' a b c others
    → plane_square unknowns x a ≤ℤ planes unknowns x
    → IsFar points a b → IsFar points a c → IsStill unknowns x b → IsStill unknowns x c
    → AreBorne whole x (rows_of points unknowns (direction_record seed price number a b))
unfolding direction_record rows_of equations_of
first-direction-borne points unknowns x seed price number price' number' a b c others whole is among within far_b far_c still_b still_c =
    direction-row-borne points unknowns x a b c others whole is
    (pair (row_energy (row_of unknowns (observed (direction_terms points a b) 1000)) x) (row_energy (row_of unknowns (observed (direction_terms points a c) 1000)) x) others among)
    within far_b far_c still_b still_c

pub second-direction-borne : (points : List PointRecord) (unknowns : List Unknown) (x : Displaced) (seed price number price' number' a b c : ℕ) (others whole : ℤ)
    → IsWhole (planes unknowns x) (heights unknowns x) others whole
    → AreAmong points unknowns x seed price number price' number' a b c others
    → plane_square unknowns x a ≤ℤ planes unknowns x
    → IsFar points a b → IsFar points a c → IsStill unknowns x b → IsStill unknowns x c
    → AreBorne whole x (rows_of points unknowns (direction_record seed price' number' a c))
unfolding direction_record rows_of equations_of
second-direction-borne points unknowns x seed price number price' number' a b c others whole is among within far_b far_c still_b still_c =
    let first = row_energy (row_of unknowns (observed (direction_terms points a b) 1000)) x in
    let second = row_energy (row_of unknowns (observed (direction_terms points a c) 1000)) x in
    direction-row-borne points unknowns x a c b others whole is
    (swapped first second others (pair first second others among))
    within far_c far_b still_c still_b

-- ---- vectors

x_within : (p q most : ℤ) → pos 0 ≤ℤ q → (p +ℤ q) ≤ℤ most → p ≤ℤ most
x_within p q most some within = omega (arith, ints)

y_within : (p q most : ℤ) → pos 0 ≤ℤ p → (p +ℤ q) ≤ℤ most → q ≤ℤ most
y_within p q most some within = omega (arith, ints)

pub vector-borne : (points : List PointRecord) (unknowns : List Unknown) (x : Displaced) (seed price number a b : ℕ) (others whole : ℤ)
    → IsWhole (planes unknowns x) (heights unknowns x) others whole
    → plane_square unknowns x b ≤ℤ planes unknowns x → height_square unknowns x b ≤ℤ heights unknowns x → IsStill unknowns x a
    → AreBorne whole x (rows_of points unknowns (vector_record seed price number a b))
unfolding vector_record rows_of equations_of
vector-borne points unknowns x seed price number a b others whole is in_plane in_height still =
    let along_x = row_of unknowns (observed (difference_terms component.X a b) 1000) in
    let along_y = row_of unknowns (observed (difference_terms component.Y a b) 1000) in
    let along_z = row_of unknowns (observed (difference_terms component.Z a b) 1500) in
    let xs = motion unknowns x b component.X *ℤ motion unknowns x b component.X in
    let ys = motion unknowns x b component.Y *ℤ motion unknowns x b component.Y in
    let Borne = λ (row : RowOf). IsBorne (row_energy row x) whole in
    All-cons Borne along_x (along_y ∷ along_z ∷ [])
    (borne_in_planes (row_energy along_x x) xs (planes unknowns x) (heights unknowns x) others whole is
    (x_within xs ys (planes unknowns x) (square_nonneg (motion unknowns x b component.Y)) in_plane) (vector-x unknowns a b x still))
    (All-cons Borne along_y (along_z ∷ [])
    (borne_in_planes (row_energy along_y x) ys (planes unknowns x) (heights unknowns x) others whole is
    (y_within xs ys (planes unknowns x) (square_nonneg (motion unknowns x b component.X)) in_plane) (vector-y unknowns a b x still))
    (one whole x along_z
    (borne_in_heights (row_energy along_z x) (height_square unknowns x b) (planes unknowns x) (heights unknowns x) others whole is in_height (vector-z unknowns a b x still))))

-- what a vector adds to the energy
pub vector-least : (points : List PointRecord) (unknowns : List Unknown) (x : Displaced) (seed price number a b : ℕ) → IsStill unknowns x a
    → (pos 10000000000 *ℤ plane_square unknowns x b +ℤ pos 4400000000 *ℤ height_square unknowns x b)
    ≤ℤ candidate_energy (candidate_of points unknowns (vector_record seed price number a b)) x
unfolding vector_record rows_of equations_of
vector-least points unknowns x seed price number a b still = vector-energy unknowns a b x still
