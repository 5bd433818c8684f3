-- What the columns of a record are read as, and which of their rules is broken first.
use Rattle.std.proofs.Common.{◌≡◌, ◌≤◌, ◌^◌, ℕ, ℤ, pos, neg_ℤ, Bool, true, false, List, [], ◌∷◌, Option, Some, None, refl, sym, ap, arith, not, ◌&&◌, ◌||◌, length}
use Rattle.std.specs.Prelude.{◌≤ℤ◌, is_none, unsigned_abs, slice_get}
use Rattle.std.proofs.lemmas.Bool.{eqb-true}
use Rattle.std.proofs.lemmas.Int.{ints}
use Rattle.text_num.specs.Decimal.{decimal_of}
use Rattle.table_rows.specs.Faults.{first_broken}
use Rattle.table_rows.proofs.FaultFacts.{first_broken-left}
use Rattle.point_tables.specs.declared.columns.PointColumns.{PointColumns}
use Rattle.point_tables.specs.declared.fault.FaultKind.{FaultKind}
use Rattle.point_tables.specs.declared.fault.FaultKind.TheVariants as kind
use Rattle.point_tables.specs.declared.part.Part.TheVariants as part
use Rattle.point_tables.specs.Accepted.{is_absent}
use Rattle.table_columns.specs.Columns.{IsNumber, is_empty, number_rules, text_at}
use Rattle.table_columns.proofs.RecordFacts.{at-field, past}
use Rattle.point_tables.specs.Columns.{number_kinds}
use Rattle.point_tables.specs.PointTable.{point_column_rules, coordinate_of, coordinate_rules, is_fixed, missing_rules, part_of, part_rules}
use Rattle.point_tables.specs.Read.{IsCoordinateOf, IsPartOf, has_missing}

-- ---- a coordinate

pub coordinate-none : (text : List ℕ) → is_empty text ≡ true → (first_broken (coordinate_rules text) ≡ None) × IsCoordinateOf text None
unfolding coordinate_rules first_broken coordinate_of decimal_of
coordinate-none [] e = (refl, record { value = refl; bound = λ x f. cc f; empty = refl })
coordinate-none (c ∷ text) e = absurd (omega (arith, eqb-true (length (c ∷ text)) 0 e))

pub coordinate-given : (text : List ℕ) → is_empty text ≡ false → coordinate_rules text ≡ number_rules number_kinds 3 (neg_ℤ (pos (10 ^ 11))) (pos (10 ^ 11)) text
unfolding coordinate_rules
coordinate-given text e = rw e refl

coordinate-size : (value : ℤ) → neg_ℤ (pos (10 ^ 11)) ≤ℤ value → value ≤ℤ pos (10 ^ 11) → unsigned_abs value ≤ 10 ^ 11
coordinate-size value low high = omega (arith, ints)

pub coordinate-some : (text : List ℕ) (value : ℤ) → is_empty text ≡ false → IsNumber 3 (neg_ℤ (pos (10 ^ 11))) (pos (10 ^ 11)) text value
    → IsCoordinateOf text (Some value)
unfolding coordinate_of
coordinate-some text value e is = record {
  value = sym is.written;
  bound = λ x f. let same : value ≡ x = cc f in rw (← same) (coordinate-size value is.low is.high);
  empty = sym e;
}

-- ---- a part

pub part-absent : (text : List ℕ) → is_empty text ≡ true → (first_broken (part_rules text) ≡ None) × IsPartOf text part.Absent
unfolding part_rules first_broken part_of
part-absent text e = (rw e refl, record { value = rw e refl; bound = λ x f. cc f; empty = sym e })

pub part-fixed : (text : List ℕ) → is_empty text ≡ false → is_fixed text ≡ true → (first_broken (part_rules text) ≡ None) × IsPartOf text part.Fixed
unfolding part_rules first_broken part_of
part-fixed text e f = (rw (e, f) refl, record { value = rw (e, f) refl; bound = λ x g. cc g; empty = sym e })

pub part-given : (text : List ℕ) → is_empty text ≡ false → is_fixed text ≡ false → part_rules text ≡ number_rules number_kinds 1 (pos 1) (pos 1000) text
unfolding part_rules
part-given text e f = rw (e, f) refl

limit-size : (value : ℤ) → pos 1 ≤ℤ value → value ≤ℤ pos 1000 → (1 ≤ unsigned_abs value) × (unsigned_abs value ≤ 1000)
limit-size value low high = (omega (arith, ints), omega (arith, ints))

pub part-new : (text : List ℕ) (value : ℤ) (limit : ℕ) → is_empty text ≡ false → is_fixed text ≡ false → IsNumber 1 (pos 1) (pos 1000) text value
    → limit ≡ unsigned_abs value → IsPartOf text (part.New limit)
unfolding part_of
part-new text value limit e f is same = record {
  value = rw (e, f, is.written) (ap part.New same);
  bound = λ x g. let other : x ≡ unsigned_abs value = cc (g, same) in rw other (limit-size value is.low is.high);
  empty = sym e;
}

-- ---- the columns one after the other

pub keeps-coordinate : (row : List (List ℕ)) (place : ℕ) (text : List ℕ) → slice_get row place ≡ Some text → first_broken (coordinate_rules text) ≡ None
    → first_broken (coordinate_rules (text_at row place)) ≡ None
keeps-coordinate row place text e p = at-field (λ t. first_broken (coordinate_rules t) ≡ None) row place text e p

pub keeps-part : (row : List (List ℕ)) (place : ℕ) (text : List ℕ) → slice_get row place ≡ Some text → first_broken (part_rules text) ≡ None
    → first_broken (part_rules (text_at row place)) ≡ None
keeps-part row place text e p = at-field (λ t. first_broken (part_rules t) ≡ None) row place text e p

module _ (row : List (List ℕ)) (broken : FaultKind) where
  pub broken-x : first_broken (coordinate_rules (text_at row 1)) ≡ Some broken → first_broken (point_column_rules row) ≡ Some broken
  unfolding point_column_rules
  broken-x x = first_broken-left _ _ broken x

  pub broken-y : first_broken (coordinate_rules (text_at row 1)) ≡ None → first_broken (coordinate_rules (text_at row 2)) ≡ Some broken
      → first_broken (point_column_rules row) ≡ Some broken
  unfolding point_column_rules
  broken-y x y = past _ _ _ x (first_broken-left _ _ broken y)

  pub broken-z : first_broken (coordinate_rules (text_at row 1)) ≡ None → first_broken (coordinate_rules (text_at row 2)) ≡ None
      → first_broken (coordinate_rules (text_at row 3)) ≡ Some broken → first_broken (point_column_rules row) ≡ Some broken
  unfolding point_column_rules
  broken-z x y z = past _ _ _ x (past _ _ _ y (first_broken-left _ _ broken z))

  pub broken-plane : first_broken (coordinate_rules (text_at row 1)) ≡ None → first_broken (coordinate_rules (text_at row 2)) ≡ None
      → first_broken (coordinate_rules (text_at row 3)) ≡ None → first_broken (part_rules (text_at row 4)) ≡ Some broken
      → first_broken (point_column_rules row) ≡ Some broken
  unfolding point_column_rules
  broken-plane x y z plane = past _ _ _ x (past _ _ _ y (past _ _ _ z (first_broken-left _ _ broken plane)))

  pub broken-height : first_broken (coordinate_rules (text_at row 1)) ≡ None → first_broken (coordinate_rules (text_at row 2)) ≡ None
      → first_broken (coordinate_rules (text_at row 3)) ≡ None → first_broken (part_rules (text_at row 4)) ≡ None
      → first_broken (part_rules (text_at row 5)) ≡ Some broken → first_broken (point_column_rules row) ≡ Some broken
  unfolding point_column_rules
  broken-height x y z plane height = past _ _ _ x (past _ _ _ y (past _ _ _ z (past _ _ _ plane (first_broken-left _ _ broken height))))

pub broken-missing : (row : List (List ℕ)) (found : Option FaultKind) → first_broken (coordinate_rules (text_at row 1)) ≡ None
    → first_broken (coordinate_rules (text_at row 2)) ≡ None → first_broken (coordinate_rules (text_at row 3)) ≡ None
    → first_broken (part_rules (text_at row 4)) ≡ None → first_broken (part_rules (text_at row 5)) ≡ None → first_broken (missing_rules row) ≡ found
    → first_broken (point_column_rules row) ≡ found
unfolding point_column_rules
broken-missing row found x y z plane height e = past _ _ _ x (past _ _ _ y (past _ _ _ z (past _ _ _ plane (past _ _ _ height e))))

-- what is missing
pub missing-some : (row : List (List ℕ)) (columns : PointColumns) → IsCoordinateOf (text_at row 1) columns.x → IsCoordinateOf (text_at row 2) columns.y
    → IsCoordinateOf (text_at row 3) columns.z → IsPartOf (text_at row 4) columns.plane → IsPartOf (text_at row 5) columns.height
    → has_missing columns ≡ true → first_broken (missing_rules row) ≡ Some kind.Missing
unfolding missing_rules first_broken
missing-some row columns x y z plane height e =
    rw (← x.empty, ← y.empty, ← z.empty, ← plane.empty, ← height.empty)
    (by (not (is_absent columns.plane) && (is_none columns.x || is_none columns.y)) (not (is_absent columns.height) && is_none columns.z) e)
  where
    by : (a b : Bool) → (a || b) ≡ true
        → first_broken (record { broken = a; kind = kind.Missing } ∷ record { broken = b; kind = kind.Missing } ∷ []) ≡ Some kind.Missing
    by true b e = refl
    by false true e = refl
    by false false e = cc e

pub missing-none : (row : List (List ℕ)) (columns : PointColumns) → IsCoordinateOf (text_at row 1) columns.x → IsCoordinateOf (text_at row 2) columns.y
    → IsCoordinateOf (text_at row 3) columns.z → IsPartOf (text_at row 4) columns.plane → IsPartOf (text_at row 5) columns.height
    → has_missing columns ≡ false → first_broken (missing_rules row) ≡ None
unfolding missing_rules first_broken
missing-none row columns x y z plane height e =
    rw (← x.empty, ← y.empty, ← z.empty, ← plane.empty, ← height.empty)
    (by (not (is_absent columns.plane) && (is_none columns.x || is_none columns.y)) (not (is_absent columns.height) && is_none columns.z) e)
  where
    by : (a b : Bool) → (a || b) ≡ false
        → first_broken (record { broken = a; kind = kind.Missing } ∷ record { broken = b; kind = kind.Missing } ∷ []) ≡ None
    by true b e = cc e
    by false true e = cc e
    by false false e = refl
