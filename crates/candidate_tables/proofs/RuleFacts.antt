-- Which rule of a column is broken first, and what the column is read as.
use Rattle.std.proofs.Common.{◌≡◌, ◌∙◌, ◌<◌, ◌^◌, ℕ, ℤ, pos, true, false, List, Option, Some, None, length, refl, ap, arith}
use Rattle.std.specs.Prelude.{slice_get, unsigned_abs}
use Rattle.std.specs.Option.{option_map_or}
use Rattle.std.proofs.lemmas.List.{length-map}
use Rattle.std.proofs.lemmas.Option.{slice_get_within}
use Rattle.text_num.specs.Decimal.{decimal_of}
use Rattle.table_rows.specs.Faults.{first_broken}
use Rattle.table_rows.proofs.FaultFacts.{first_broken-left}
use Rattle.point_tables.specs.declared.fault.FaultKind.{FaultKind}
use Rattle.point_tables.specs.declared.fault.FaultKind.TheVariants as fault
use Rattle.point_tables.specs.declared.record.PointRecord.{PointRecord}
use Rattle.point_tables.specs.Columns.{number_kinds}
use Rattle.table_columns.specs.Columns.{IsNumber, number_rules, text_at}
use Rattle.table_columns.specs.Names.{place_of}
use Rattle.point_tables.specs.PointTable.{point_names}
use Rattle.table_columns.proofs.PlaceFacts.{among-is, place-at}
use Rattle.candidate_tables.specs.declared.kind.Kind.{Kind}
use Rattle.candidate_tables.specs.CandidateTable.{deviation_of, deviation_rules, end_rules, figure_rules, foresight_in, foresight_rules, height_deviation_of, height_rules, kind_at, kind_rules, known_point_rules, written_price, price_rules}
use Rattle.candidate_tables.specs.Kinds.{kind_named, rules_of}
use Rattle.candidate_tables.specs.Places.{place_in}
use Rattle.candidate_tables.specs.declared.ends.Ends.{Ends}
use Rattle.candidate_tables.specs.Read.{IsEnds, IsForesight, IsPlaceOf}
use Rattle.table_columns.proofs.RecordFacts.{at-field, past}

-- ---- the points that are named

place-within : (points : List PointRecord) (text : List ℕ) (place : ℕ) → place_of text (point_names points) ≡ Some place → place < length points
place-within points text place e =
    let within = slice_get_within (point_names points) place text (place-at text (point_names points) place e) in
    omega (arith, within, length-map points (λ (point : PointRecord). point.name))

pub point-found : (points : List PointRecord) (text : List ℕ) (place : ℕ) → place_of text (point_names points) ≡ Some place
    → (first_broken (known_point_rules points text) ≡ None) × IsPlaceOf points text place
unfolding known_point_rules first_broken place_in
point-found points text place e =
    (rw (among-is text (point_names points), e) refl, record { value = rw e refl; within = place-within points text place e })

pub point-none : (points : List PointRecord) (text : List ℕ) → place_of text (point_names points) ≡ None → first_broken (known_point_rules points text) ≡ Some fault.NoPoint
unfolding known_point_rules first_broken
point-none points text e = rw (among-is text (point_names points), e) refl

pub foresight-other : (points : List PointRecord) (kind : Kind) (text : List ℕ) → (rules_of kind).has_foresight ≡ false
    → (first_broken (foresight_rules points kind text) ≡ None) × IsForesight points kind text None
unfolding foresight_rules first_broken foresight_in
foresight-other points kind text e = (rw e refl, record { value = rw e refl; within = λ x f. cc f })

pub foresight-rules : (points : List PointRecord) (kind : Kind) (text : List ℕ) → (rules_of kind).has_foresight ≡ true → foresight_rules points kind text ≡ known_point_rules points text
unfolding foresight_rules
foresight-rules points kind text e = rw e refl

pub foresight-found : (points : List PointRecord) (kind : Kind) (text : List ℕ) (place : ℕ) → (rules_of kind).has_foresight ≡ true → IsPlaceOf points text place
    → IsForesight points kind text (Some place)
unfolding foresight_in
foresight-found points kind text place e is = record {
  value = rw e (ap Some is.value);
  within = λ x f. let same : place ≡ x = cc f in rw (← same) is.within;
}

-- ---- the figures

size-is : (text : List ℕ) (places : ℕ) (value : ℤ) (size : ℕ) → decimal_of places text ≡ Some value → size ≡ unsigned_abs value
    → size ≡ option_map_or unsigned_abs (decimal_of places text) 0
size-is text places value size e same = rw e same

pub deviation-read : (text : List ℕ) (value : ℤ) (size : ℕ) → IsNumber 2 (pos 10) (pos 10000) text value → size ≡ unsigned_abs value → size ≡ deviation_of text
unfolding deviation_of
deviation-read text value size is same = size-is text 2 value size is.written same

pub price-read : (text : List ℕ) (value : ℤ) (size : ℕ) → IsNumber 0 (pos 0) (pos (10 ^ 9)) text value → size ≡ unsigned_abs value → size ≡ written_price text
unfolding written_price
price-read text value size is same = size-is text 0 value size is.written same

pub deviation-is : (text : List ℕ) → deviation_rules text ≡ number_rules number_kinds 2 (pos 10) (pos 10000) text
unfolding deviation_rules
deviation-is text = refl

pub price-is : (text : List ℕ) → price_rules text ≡ number_rules number_kinds 0 (pos 0) (pos (10 ^ 9)) text
unfolding price_rules
price-is text = refl

pub height-other : (kind : Kind) (text : List ℕ) → (rules_of kind).has_height_deviation ≡ false → (first_broken (height_rules kind text) ≡ None) × (None ≡ height_deviation_of kind text)
unfolding height_rules first_broken height_deviation_of
height-other kind text e = (rw e refl, rw e refl)

pub height-rules : (kind : Kind) (text : List ℕ) → (rules_of kind).has_height_deviation ≡ true → height_rules kind text ≡ deviation_rules text
unfolding height_rules
height-rules kind text e = rw e refl

pub height-found : (kind : Kind) (text : List ℕ) (value : ℕ) → (rules_of kind).has_height_deviation ≡ true → value ≡ deviation_of text → Some value ≡ height_deviation_of kind text
unfolding height_deviation_of
height-found kind text value e same = rw e (ap Some same)

-- ---- one column after the other

-- the kind of a record whose text names one
pub kind-at : (row : List (List ℕ)) (kind : Kind) → kind_named (text_at row 1) ≡ Some kind → kind ≡ kind_at row
unfolding kind_at
kind-at row kind e = rw e refl

module _ (points : List PointRecord) (row : List (List ℕ)) where
  pub broken-kind : (broken : FaultKind) → first_broken (kind_rules (text_at row 1)) ≡ Some broken → first_broken (end_rules points row) ≡ Some broken
  unfolding end_rules
  broken-kind broken kind = first_broken-left _ _ broken kind

  pub broken-from : (broken : FaultKind) → first_broken (kind_rules (text_at row 1)) ≡ None → first_broken (known_point_rules points (text_at row 2)) ≡ Some broken
      → first_broken (end_rules points row) ≡ Some broken
  unfolding end_rules
  broken-from broken kind from = past _ _ _ kind (first_broken-left _ _ broken from)

  pub broken-to : (broken : FaultKind) → first_broken (kind_rules (text_at row 1)) ≡ None → first_broken (known_point_rules points (text_at row 2)) ≡ None
      → first_broken (known_point_rules points (text_at row 3)) ≡ Some broken → first_broken (end_rules points row) ≡ Some broken
  unfolding end_rules
  broken-to broken kind from to = past _ _ _ kind (past _ _ _ from (first_broken-left _ _ broken to))

  pub broken-to2 : (found : Option FaultKind) → first_broken (kind_rules (text_at row 1)) ≡ None → first_broken (known_point_rules points (text_at row 2)) ≡ None
      → first_broken (known_point_rules points (text_at row 3)) ≡ None → first_broken (foresight_rules points (kind_at row) (text_at row 4)) ≡ found
      → first_broken (end_rules points row) ≡ found
  unfolding end_rules
  broken-to2 found kind from to to2 = past _ _ _ kind (past _ _ _ from (past _ _ _ to to2))

module _ (kind : Kind) (row : List (List ℕ)) where
  pub broken-sd : (broken : FaultKind) → first_broken (deviation_rules (text_at row 5)) ≡ Some broken → first_broken (figure_rules kind row) ≡ Some broken
  unfolding figure_rules
  broken-sd broken sd = first_broken-left _ _ broken sd

  pub broken-sdh : (broken : FaultKind) → first_broken (deviation_rules (text_at row 5)) ≡ None → first_broken (height_rules kind (text_at row 6)) ≡ Some broken
      → first_broken (figure_rules kind row) ≡ Some broken
  unfolding figure_rules
  broken-sdh broken sd sdh = past _ _ _ sd (first_broken-left _ _ broken sdh)

  pub broken-price : (found : Option FaultKind) → first_broken (deviation_rules (text_at row 5)) ≡ None → first_broken (height_rules kind (text_at row 6)) ≡ None
      → first_broken (price_rules (text_at row 7)) ≡ found → first_broken (figure_rules kind row) ≡ found
  unfolding figure_rules
  broken-price found sd sdh price = past _ _ _ sd (past _ _ _ sdh price)

-- the same of the text of a field
pub keeps-kind : (row : List (List ℕ)) (text : List ℕ) → slice_get row 1 ≡ Some text → first_broken (kind_rules text) ≡ None → first_broken (kind_rules (text_at row 1)) ≡ None
keeps-kind row text e p = at-field (λ t. first_broken (kind_rules t) ≡ None) row 1 text e p

pub keeps-point : (points : List PointRecord) (row : List (List ℕ)) (place : ℕ) (text : List ℕ) → slice_get row place ≡ Some text
    → first_broken (known_point_rules points text) ≡ None → first_broken (known_point_rules points (text_at row place)) ≡ None
keeps-point points row place text e p = at-field (λ t. first_broken (known_point_rules points t) ≡ None) row place text e p

pub keeps-deviation : (row : List (List ℕ)) (text : List ℕ) → slice_get row 5 ≡ Some text → first_broken (deviation_rules text) ≡ None
    → first_broken (deviation_rules (text_at row 5)) ≡ None
keeps-deviation row text e p = at-field (λ t. first_broken (deviation_rules t) ≡ None) row 5 text e p

pub keeps-height : (kind : Kind) (row : List (List ℕ)) (text : List ℕ) → slice_get row 6 ≡ Some text → first_broken (height_rules kind text) ≡ None
    → first_broken (height_rules kind (text_at row 6)) ≡ None
keeps-height kind row text e p = at-field (λ t. first_broken (height_rules kind t) ≡ None) row 6 text e p

-- what a record names
pub ends-read : (points : List PointRecord) (row : List (List ℕ)) (ends : Ends) → ends.kind ≡ kind_at row → IsPlaceOf points (text_at row 2) ends.from
    → IsPlaceOf points (text_at row 3) ends.to → IsForesight points ends.kind (text_at row 4) ends.to2 → IsEnds points row ends
ends-read points row ends kind from to to2 = record {
  kind = kind;
  from = from.value;
  to = to.value;
  to2 = to2.value ∙ ap (λ (k : Kind). foresight_in points k (text_at row 4)) kind;
  within = record { first = from.within; second = to.within; third = to2.within };
}
