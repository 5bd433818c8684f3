-- The points that a record names: their coordinates, their parts, and which rule on them is broken first.
use Rattle.std.proofs.Common.{FitsSigned, to_z, of_z, w64, arith, ◌≡◌, ◌∙◌, ◌<◌, ◌≤◌, ◌^◌, ℕ, ℤ, List, [], ◌++◌, Option, Some, None, refl, sym}
use Rattle.std.specs.Prelude.{◌-ℤ◌, slice_get, unsigned_abs}
use Rattle.std.proofs.lemmas.Int.{ints, to_z-of_z, fits_signed_from_abs}
use Rattle.table_rows.specs.Faults.{Rule, first_broken}
use Rattle.table_rows.proofs.FaultFacts.{first_broken-left, first_broken-right}
use Rattle.point_tables.specs.declared.fault.FaultKind.{FaultKind}
use Rattle.point_tables.specs.declared.record.PointRecord.{PointRecord}
use Rattle.point_tables.specs.Accepted.{is_absent}
use Rattle.candidate_tables.specs.declared.kind.Kind.{Kind}
use Rattle.candidate_tables.specs.CandidateTable.{extra_rules, line_length_rules, lines_rules, needed_part_rules, place_rules}
use Rattle.coefficient_round.specs.Coefficient.{square_length}
use Rattle.candidate_tables.specs.Lines.{length_squared, x_at, y_at}
use Rattle.candidate_tables.specs.Places.{lacks_height, lacks_plane, named}

pub plane-at : (points : List PointRecord) (place : ℕ) (point : PointRecord) → slice_get points place ≡ Some point → is_absent point.plane ≡ lacks_plane points place
unfolding lacks_plane
plane-at points place point e = rw e refl

pub height-at : (points : List PointRecord) (place : ℕ) (point : PointRecord) → slice_get points place ≡ Some point → is_absent point.height ≡ lacks_height points place
unfolding lacks_height
height-at points place point e = rw e refl

pub squared-is : (points : List PointRecord) (from to : ℕ) → square_length (x_at points to -ℤ x_at points from) (y_at points to -ℤ y_at points from) ≡ length_squared points from to
unfolding length_squared
squared-is points from to = refl

-- coordinates are small enough that their difference is the code's
small : (z : ℤ) → unsigned_abs z ≤ 10 ^ 11 → FitsSigned w64 z
small z size = fits_signed_from_abs w64 z (omega arith)

difference-fits : (a b : ℤ) → unsigned_abs a ≤ 10 ^ 11 → unsigned_abs b ≤ 10 ^ 11 → FitsSigned w64 (a -ℤ b)
difference-fits a b first second =
    let size : unsigned_abs (a -ℤ b) < 2 ^ 63 = omega (arith, ints) in
    fits_signed_from_abs w64 (a -ℤ b) size

pub difference-is : (a b : ℤ) → unsigned_abs a ≤ 10 ^ 11 → unsigned_abs b ≤ 10 ^ 11
    → to_z w64 (of_z w64 (to_z w64 (of_z w64 a) -ℤ to_z w64 (of_z w64 b))) ≡ a -ℤ b
difference-is a b first second =
    rw (to_z-of_z w64 a (small a first), to_z-of_z w64 b (small b second), to_z-of_z w64 (a -ℤ b) (difference-fits a b first second)) refl

-- where no rule of a part is broken the first broken one is among those after it
past : {K : Type 0} (front back : List (Rule K)) (found : Option K) → first_broken front ≡ None → found ≡ first_broken back → found ≡ first_broken (front ++ back)
past front back found kept e = e ∙ sym (first_broken-right front back kept)

-- the lines from the station
module _ (points : List PointRecord) (kind : Kind) (from to : ℕ) where
  pub lines-first : (to2 : Option ℕ) (broken : FaultKind) → first_broken (line_length_rules points kind from to) ≡ Some broken → Some broken ≡ first_broken (lines_rules points kind from to to2)
  unfolding lines_rules
  lines-first to2 broken e = sym (first_broken-left _ _ broken e)

  pub lines-none : (to2 : Option ℕ) → to2 ≡ None → first_broken (line_length_rules points kind from to) ≡ None → None ≡ first_broken (lines_rules points kind from to to2)
  unfolding lines_rules first_broken
  lines-none to2 none e = rw none (past (line_length_rules points kind from to) [] None e refl)

  pub lines-second : (to2 : Option ℕ) (foresight : ℕ) (found : Option FaultKind) → to2 ≡ Some foresight → first_broken (line_length_rules points kind from to) ≡ None
      → found ≡ first_broken (line_length_rules points kind from foresight) → found ≡ first_broken (lines_rules points kind from to to2)
  unfolding lines_rules
  lines-second to2 foresight found some e f = rw some (past (line_length_rules points kind from to) (line_length_rules points kind from foresight) found e f)

-- what a record names
module _ (points : List PointRecord) (row : List (List ℕ)) (kind : Kind) (from to : ℕ) (to2 : Option ℕ) where
  pub broken-extra : (broken : FaultKind) → first_broken (extra_rules kind row) ≡ Some broken → Some broken ≡ first_broken (place_rules points row kind from to to2)
  unfolding place_rules
  broken-extra broken e = sym (first_broken-left _ _ broken e)

  pub broken-part : (broken : FaultKind) → first_broken (extra_rules kind row) ≡ None → first_broken (needed_part_rules points kind (named from to to2)) ≡ Some broken
      → Some broken ≡ first_broken (place_rules points row kind from to to2)
  unfolding place_rules
  broken-part broken e f = past _ _ _ e (sym (first_broken-left _ _ broken f))

  pub broken-lines : (found : Option FaultKind) → first_broken (extra_rules kind row) ≡ None → first_broken (needed_part_rules points kind (named from to to2)) ≡ None
      → found ≡ first_broken (lines_rules points kind from to to2) → found ≡ first_broken (place_rules points row kind from to to2)
  unfolding place_rules
  broken-lines found e f g = past _ _ _ e (past _ _ _ f g)
