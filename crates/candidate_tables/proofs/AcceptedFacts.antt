-- What holds of a record that breaks no rule, and of the candidates of a table without a fault.
use Rattle.std.proofs.Common.{◌≡◌, ◌≢◌, ◌∙◌, ◌≤◌, ◌^◌, ℕ, ℤ, pos, Bool, true, false, List, [], Option, Some, None, refl, sym, arith, not, ◌&&◌, ◌||◌, eqb, subst}
use Rattle.std.specs.Prelude.{◌≤ℤ◌, if◌then◌else◌, int_le, is_none, is_some, option_map, slice_get, unsigned_abs}
use Rattle.std.specs.List.{list_any}
use Rattle.std.specs.Option.{ForSome, option_map_or}
use Rattle.std.proofs.lemmas.Bool.{and_parts, eqb-false}
use Rattle.std.proofs.lemmas.Bool.Decides.{nat_tests}
use Rattle.std.proofs.lemmas.Int.{ints}
use Rattle.std.proofs.lemmas.Option.{slice_get-map}
use Rattle.text_num.specs.Decimal.{decimal_of}
use Rattle.table_rows.specs.Faults.{first_broken}
use Rattle.table_rows.proofs.FaultFacts.{both-kept, each-kept}
use Rattle.point_tables.specs.declared.record.PointRecord.{PointRecord}
use Rattle.point_tables.specs.Accepted.{is_absent}
use Rattle.point_tables.specs.Columns.{number_kinds}
use Rattle.table_columns.specs.Columns.{is_outside, name_at, number_rules, text_at}
use Rattle.table_columns.specs.Names.{is_among, is_name, place_of}
use Rattle.point_tables.specs.PointTable as points_table
use Rattle.table_columns.proofs.PlaceFacts.{among-is, place-at}
use Rattle.candidate_tables.specs.declared.kind.Kind.{Kind}
use Rattle.candidate_tables.specs.declared.kind_rules.LineBounds.{LineBounds}
use Rattle.candidate_tables.specs.Accepted.{IsBetween, IsCandidateRecord, IsEnd, IsLineInBounds, IsSquareWithin}
use Rattle.candidate_tables.specs.CandidateTable.{bound_rules, candidate_record_of, candidate_column_rules, deviation_of, deviation_rules, end_rules, figure_rules, foresight_in, foresight_rules, height_deviation_of, height_rules, kind_at, length_rules, line_length_rules, lines_rules, needed_part_rules, place_rules, known_point_rules, written_price, price_rules}
use Rattle.candidate_tables.specs.Kinds.{rules_of}
use Rattle.candidate_tables.specs.Lines.{length_squared}
use Rattle.candidate_tables.specs.Places.{has_repeat, lacks_height, lacks_plane, named, place_in}

-- ---- tests

not-false : (a : Bool) → not a ≡ false → a ≡ true
not-false true e = refl
not-false false e = cc e

and-false : (a b : Bool) → (a && b) ≡ false → a ≡ true → b ≡ false
and-false true b e f = e
and-false false b e f = cc f

or-false : (a b : Bool) → (a || b) ≡ false → (a ≡ false) × (b ≡ false)
or-false true b e = absurd (cc e)
or-false false b e = (refl, e)

-- a test that no point that is named passes
pub named-none : (test : ℕ → Bool) (from to : ℕ) (to2 : Option ℕ) → list_any test (named from to to2) ≡ false
    → (test from ≡ false) × (test to ≡ false) × ForSome to2 (λ foresight. test foresight ≡ false)
named-none test from to None e =
    let (first, rest) = or-false (test from) (test to || false) e in
    (first, (or-false (test to) false rest).0, λ x f. cc f)
named-none test from to (Some foresight) e =
    let (first, rest) = or-false (test from) (test to || (test foresight || false)) e in
    let (second, last) = or-false (test to) (test foresight || false) rest in
    (first, second, λ x f. let same : foresight ≡ x = cc f in rw (← same) ((or-false (test foresight) false last).0))

-- points that are named once
pub named-apart : (from to : ℕ) (to2 : Option ℕ) → has_repeat (named from to to2) ≡ false → (from ≢ to) × ForSome to2 (λ foresight. (from ≢ foresight) × (to ≢ foresight))
named-apart from to None e =
    let (first, rest) = or-false (eqb from to || false) (false || false) e in
    (eqb-false from to (or-false (eqb from to) false first).0, λ x f. cc f)
named-apart from to (Some foresight) e =
    let (first, rest) = or-false (eqb from to || (eqb from foresight || false)) ((eqb to foresight || false) || (false || false)) e in
    let (near, far) = or-false (eqb from to) (eqb from foresight || false) first in
    let (second, last) = or-false (eqb to foresight || false) (false || false) rest in (
      eqb-false from to near,
      λ x f. let same : foresight ≡ x = cc f in
          rw (← same) (eqb-false from foresight (or-false (eqb from foresight) false far).0, eqb-false to foresight (or-false (eqb to foresight) false second).0),
    )

-- ---- the points that are named

some-of : {A : Type 0} (o : Option A) → is_some o ≡ true → (x : A) × (o ≡ Some x)
some-of None e = absurd (cc e)
some-of (Some x) e = (x, refl)

mapped-some : {A B : Type 0} (f : A → B) (o : Option A) (y : B) → option_map f o ≡ Some y → (x : A) × (o ≡ Some x)
mapped-some f None y e = absurd (cc e)
mapped-some f (Some x) y e = (x, refl)

place-is : (points : List PointRecord) (text : List ℕ) (place : ℕ) → place_of text (points_table.point_names points) ≡ Some place → place_in points text ≡ place
unfolding place_in
place-is points text place e = rw e refl

-- a name that some point has is that of a point
pub point-named : (points : List PointRecord) (text : List ℕ) → first_broken (known_point_rules points text) ≡ None → (point : PointRecord) × (slice_get points (place_in points text) ≡ Some point)
unfolding known_point_rules
point-named points text e =
    let among = not-false (is_among text (points_table.point_names points)) (each-kept _ [] e).0 in
    let (place, is) = some-of (place_of text (points_table.point_names points)) (sym (among-is text (points_table.point_names points)) ∙ among) in
    let at = place-at text (points_table.point_names points) place is in
    let (point, here) = mapped-some (λ (p : PointRecord). p.name) (slice_get points place) text (sym (slice_get-map (λ (p : PointRecord). p.name) points place) ∙ at) in
    (point, subst (λ (k : ℕ). slice_get points k ≡ Some point) (sym (place-is points text place is)) here)

plane-kept : (points : List PointRecord) (place : ℕ) (point : PointRecord) → slice_get points place ≡ Some point → lacks_plane points place ≡ false → is_absent point.plane ≡ false
unfolding lacks_plane
plane-kept points place point is e = rw is at e

height-kept : (points : List PointRecord) (place : ℕ) (point : PointRecord) → slice_get points place ≡ Some point → lacks_height points place ≡ false → is_absent point.height ≡ false
unfolding lacks_height
height-kept points place point is e = rw is at e

end-of : (points : List PointRecord) (kind : Kind) (place : ℕ) → ((point : PointRecord) × (slice_get points place ≡ Some point))
    → ((rules_of kind).needs_plane ≡ true → lacks_plane points place ≡ false) → ((rules_of kind).needs_height ≡ true → lacks_height points place ≡ false) → IsEnd points kind place
end-of points kind place (point, is) plane height = record {
  point = point;
  is = is;
  plane = λ needs. plane-kept points place point is (plane needs);
  height = λ needs. height-kept points place point is (height needs);
}

-- a square of a length that breaks no rule
within-of : (square : ℕ) (bounds : LineBounds) → first_broken (bound_rules square bounds) ≡ None → IsSquareWithin square bounds
unfolding bound_rules
within-of square bounds e =
    let (near, rest) = each-kept _ _ e in
    let (far, none) = each-kept _ _ rest in
    record { least = grind (arith, nat_tests); greatest = grind (arith, nat_tests) }

-- a line that breaks no rule
line-of : (points : List PointRecord) (kind : Kind) (from to : ℕ) → first_broken (line_length_rules points kind from to) ≡ None → IsLineInBounds points kind from to
unfolding length_rules
line-of points kind from to e = λ bounds is.
    within-of (length_squared points from to) bounds (subst (λ (o : Option LineBounds). first_broken (option_map_or (bound_rules (length_squared points from to)) o []) ≡ None) is e)

-- the lines from the station, where they break no rule
lines-of : (points : List PointRecord) (kind : Kind) (from to : ℕ) (to2 : Option ℕ) → first_broken (lines_rules points kind from to to2) ≡ None
    → IsLineInBounds points kind from to × ForSome to2 (IsLineInBounds points kind from)
unfolding lines_rules
lines-of points kind from to to2 e =
    let (first, second) = both-kept _ _ e in (
      line-of points kind from to first,
      λ foresight is. line-of points kind from foresight (subst (λ (o : Option ℕ). first_broken (option_map_or (line_length_rules points kind from) o []) ≡ None) is second),
    )

-- the points that are named, where they and their parts break no rule
record PartsKept (points : List PointRecord) (kind : Kind) (from to : ℕ) (to2 : Option ℕ) : Type 0 where
  apart : (from ≢ to) × ForSome to2 (λ foresight. (from ≢ foresight) × (to ≢ foresight))
  plane : (rules_of kind).needs_plane ≡ true → (lacks_plane points from ≡ false) × (lacks_plane points to ≡ false) × ForSome to2 (λ foresight. lacks_plane points foresight ≡ false)
  height : (rules_of kind).needs_height ≡ true → (lacks_height points from ≡ false) × (lacks_height points to ≡ false) × ForSome to2 (λ foresight. lacks_height points foresight ≡ false)

parts-of : (points : List PointRecord) (kind : Kind) (from to : ℕ) (to2 : Option ℕ) → first_broken (needed_part_rules points kind (named from to to2)) ≡ None → PartsKept points kind from to to2
unfolding needed_part_rules
parts-of points kind from to to2 e =
    let (same, rest) = each-kept _ _ e in
    let (plane, more) = each-kept _ _ rest in
    let (height, none) = each-kept _ _ more in
    record {
      apart = named-apart from to to2 same;
      plane = λ needs. named-none (lacks_plane points) from to to2 (and-false (rules_of kind).needs_plane _ plane needs);
      height = λ needs. named-none (lacks_height points) from to to2 (and-false (rules_of kind).needs_height _ height needs);
    }

-- the foresight that an angle names is a point
foresight-named : (points : List PointRecord) (kind : Kind) (text : List ℕ) (foresight : ℕ) → first_broken (foresight_rules points kind text) ≡ None
    → foresight_in points kind text ≡ Some foresight → (point : PointRecord) × (slice_get points foresight ≡ Some point)
unfolding foresight_rules foresight_in
foresight-named points kind text foresight e is = by (rules_of kind).has_foresight e is
  where
    by : (t : Bool) → first_broken (if t then known_point_rules points text else []) ≡ None → (if t then Some (place_in points text) else None) ≡ Some foresight
        → (point : PointRecord) × (slice_get points foresight ≡ Some point)
    by true f same =
        let place : place_in points text ≡ foresight = cc same in
        subst (λ (k : ℕ). (point : PointRecord) × (slice_get points k ≡ Some point)) place (point-named points text f)
    by false f same = absurd (cc same)

foresight-given : (points : List PointRecord) (kind : Kind) (text : List ℕ) → is_some (foresight_in points kind text) ≡ (rules_of kind).has_foresight
unfolding foresight_in
foresight-given points kind text = by (rules_of kind).has_foresight
  where
    by : (t : Bool) → is_some (if t then Some (place_in points text) else None) ≡ t
    by true = refl
    by false = refl

-- ---- the figures

le-of : (a b : ℤ) → int_le a b ≡ true → a ≤ℤ b
le-of a b h = grind (arith, ints)

-- a text that breaks no rule of a number
number-kept : (places : ℕ) (least most : ℤ) (text : List ℕ) → first_broken (number_rules number_kinds places least most text) ≡ None
    → (value : ℤ) × (decimal_of places text ≡ Some value) × (least ≤ℤ value) × (value ≤ℤ most)
unfolding number_rules
number-kept places least most text e =
    let (given, rest) = each-kept _ _ e in
    let (inside, none) = each-kept _ [] rest in
    by (decimal_of places text) given inside refl
  where
    by : (o : Option ℤ) → is_none o ≡ false → option_map_or (is_outside least most) o false ≡ false → decimal_of places text ≡ o
        → (value : ℤ) × (decimal_of places text ≡ Some value) × (least ≤ℤ value) × (value ≤ℤ most)
    by None f inside is = absurd (cc f)
    by (Some value) f inside is =
        let (low, high) = and_parts (int_le least value) (int_le value most) (not-false (int_le least value && int_le value most) inside) in
        (value, is, le-of least value low, le-of value most high)

between : (value : ℤ) → pos 10 ≤ℤ value → value ≤ℤ pos 10000 → IsBetween (unsigned_abs value)
between value low high = (omega (arith, ints), omega (arith, ints))

deviation-of : (text : List ℕ) → first_broken (deviation_rules text) ≡ None → IsBetween (deviation_of text)
unfolding deviation_rules deviation_of
deviation-of text e =
    let (value, written, low, high) = number-kept 2 (pos 10) (pos 10000) text e in
    rw written (between value low high)

most-price : (value : ℤ) → pos 0 ≤ℤ value → value ≤ℤ pos (10 ^ 9) → unsigned_abs value ≤ 10 ^ 9
most-price value low high = omega (arith, ints)

price-of : (text : List ℕ) → first_broken (price_rules text) ≡ None → written_price text ≤ 10 ^ 9
unfolding price_rules written_price
price-of text e =
    let (value, written, low, high) = number-kept 0 (pos 0) (pos (10 ^ 9)) text e in
    rw written (most-price value low high)

height-of : (kind : Kind) (text : List ℕ) → first_broken (height_rules kind text) ≡ None
    → (is_some (height_deviation_of kind text) ≡ (rules_of kind).has_height_deviation) × ForSome (height_deviation_of kind text) IsBetween
unfolding height_rules height_deviation_of
height-of kind text e = by (rules_of kind).has_height_deviation e
  where
    by : (t : Bool) → first_broken (if t then deviation_rules text else []) ≡ None
        → (is_some (if t then Some (deviation_of text) else None) ≡ t) × ForSome (if t then Some (deviation_of text) else None) IsBetween
    by true f = (refl, λ x is. let same : deviation_of text ≡ x = cc is in subst IsBetween same (deviation-of text f))
    by false f = (refl, λ x is. absurd (cc is))

-- ---- a record that breaks no rule

-- the parts of a record's rules
record RecordKept (points : List PointRecord) (row : List (List ℕ)) (kind : Kind) (from to : ℕ) (to2 : Option ℕ) : Type 0 where
  first : first_broken (known_point_rules points (text_at row 2)) ≡ None
  second : first_broken (known_point_rules points (text_at row 3)) ≡ None
  third : first_broken (foresight_rules points kind (text_at row 4)) ≡ None
  parts : PartsKept points kind from to to2
  lines : IsLineInBounds points kind from to × ForSome to2 (IsLineInBounds points kind from)
  sd : first_broken (deviation_rules (text_at row 5)) ≡ None
  sdh : first_broken (height_rules kind (text_at row 6)) ≡ None
  price : first_broken (price_rules (text_at row 7)) ≡ None

record-kept : (points : List PointRecord) (row : List (List ℕ)) → first_broken (candidate_column_rules points row (candidate_record_of points row)) ≡ None
    → RecordKept points row (kind_at row) (place_in points (text_at row 2)) (place_in points (text_at row 3)) (foresight_in points (kind_at row) (text_at row 4))
unfolding candidate_record_of end_rules place_rules figure_rules
record-kept points row e =
    let (ends, after_ends) = both-kept _ _ e in
    let (kind, after_kind) = both-kept _ _ ends in
    let (first, after_first) = both-kept _ _ after_kind in
    let (second, third) = both-kept _ _ after_first in
    let (places, figures) = both-kept _ _ after_ends in
    let (extra, after_extra) = both-kept _ _ places in
    let (parts, lines) = both-kept _ _ after_extra in
    let (sd, after_sd) = both-kept _ _ figures in
    let (sdh, price) = both-kept _ _ after_sd in
    record {
      first = first;
      second = second;
      third = third;
      parts = parts-of points (kind_at row) _ _ _ parts;
      lines = lines-of points (kind_at row) _ _ _ lines;
      sd = sd;
      sdh = sdh;
      price = price;
    }

-- what an accepted record is
pub record-accepted : (points : List PointRecord) (row : List (List ℕ)) → is_name (name_at row) ≡ true → first_broken (candidate_column_rules points row (candidate_record_of points row)) ≡ None
    → IsCandidateRecord points (candidate_record_of points row)
unfolding candidate_record_of
record-accepted points row is_one e =
    let kept = record-kept points row e in
    record {
      name = is_one;
      from = end-of points (kind_at row) _ (point-named points (text_at row 2) kept.first) (λ needs. (kept.parts.plane needs).0) (λ needs. (kept.parts.height needs).0);
      to = end-of points (kind_at row) _ (point-named points (text_at row 3) kept.second) (λ needs. (kept.parts.plane needs).1) (λ needs. (kept.parts.height needs).1);
      other = kept.parts.apart.0;
      line = kept.lines.0;
      has_to2 = foresight-given points (kind_at row) (text_at row 4);
      to2 = λ foresight is. record {
        end = end-of points (kind_at row) foresight (foresight-named points (kind_at row) (text_at row 4) foresight kept.third is)
            (λ needs. (kept.parts.plane needs).2 foresight is) (λ needs. (kept.parts.height needs).2 foresight is);
        other_from = (kept.parts.apart.1 foresight is).0;
        other_to = (kept.parts.apart.1 foresight is).1;
        line = kept.lines.1 foresight is;
      };
      sd = deviation-of (text_at row 5) kept.sd;
      has_sdh = (height-of (kind_at row) (text_at row 6) kept.sdh).0;
      sdh = (height-of (kind_at row) (text_at row 6) kept.sdh).1;
      price = price-of (text_at row 7) kept.price;
    }
