-- The lines of a candidates table, as records of texts: they are read back as candidates, and break no rule.
use Rattle.std.proofs.Common.{◌≡◌, ◌∙◌, ◌<◌, ◌≤◌, ◌+◌, ◌*◌, ◌^◌, ◌==◌, ℕ, true, false, List, [], ◌∷◌, ◌++◌, Option, Some, None, refl, sym, ap, arith, pos, ◌-ℤ◌, append_assoc, subst}
use Rattle.std.specs.Prelude.{codes, nat_lt, unsigned_abs}
use Rattle.std.specs.Fmt.{decimal}
use Rattle.std.specs.List.{AllByRecursion}
use Rattle.std.proofs.Math.Nat.{mul-le-mul}
use Rattle.std.proofs.lemmas.Bool.Decides.{nat_tests}
use Rattle.std.proofs.lemmas.Int.{ints}
use Rattle.text_num.specs.Decimal.{decimal_of, fraction_of, unsigned_of}
use Rattle.table_rows.specs.Faults.{first_broken}
use Rattle.table_columns.specs.Columns.{IsNumber, is_empty, number_rules, text_at}
use Rattle.table_columns.specs.Names.{place_of}
use Rattle.table_columns.proofs.NumberFacts.{number-within}
use Rattle.point_tables.specs.declared.record.PointRecord.{PointRecord}
use Rattle.point_tables.specs.Columns.{number_kinds}
use Rattle.point_tables.specs.PointTable.{point_names}
use Rattle.candidate_tables.specs.declared.kind.Kind.{Kind}
use Rattle.candidate_tables.specs.declared.kind.Kind.TheVariants as kind
use Rattle.candidate_tables.specs.declared.record.CandidateRecord.{CandidateRecord}
use Rattle.candidate_tables.specs.CandidateTable.{bound_rules, candidate_record_of, candidate_rules, deviation_of, deviation_rules, extra_rules, foresight_rules, height_deviation_of, height_rules, kind_at, kind_rules, length_rules, lines_rules, needed_part_rules, place_rules, price_rules}
use Rattle.candidate_tables.specs.Kinds.{kind_named, rules_of}
use Rattle.candidate_tables.specs.Lines.{length_squared, x_at, y_at}
use Rattle.candidate_tables.specs.Places.{lacks_height, lacks_plane}
use Rattle.candidate_tables.specs.Read.{AreFigures, IsEnds, IsForesight}
use Rattle.candidate_tables.proofs.RecordFacts.{columns-figures, columns-read, read-candidate}
use Rattle.candidate_tables.proofs.RuleFacts.{broken-price, broken-to2, ends-read, foresight-found, foresight-other, foresight-rules, height-other, kind-at, point-found, price-is, price-read}
use Rattle.gen_net.specs.Draws.{drawn}
use Rattle.gen_net.specs.Fields.{label}
use Rattle.gen_net.specs.Candidates.{angle_line, direction_line, distance_line, level_line, candidate_line, vector_line}
use Rattle.gen_records.specs.Records.{angle_record, direction_record, distance_record, level_record, vector_record}
use Rattle.gen_records.proofs.CountFacts.{drawn-below}
use Rattle.gen_records.proofs.LongLines.{IsLong}
use Rattle.gen_texts.proofs.KeptRules.{IsKeptRow}
use Rattle.gen_texts.proofs.NumberFields.{decimal-plain, decimal-read}
use Rattle.gen_texts.proofs.PlainLines.{IsLine, line, line_rest}
use Rattle.gen_texts.proofs.PlainTexts.{IsPlain, plain-append, plain-tested}
use Rattle.gen_texts.proofs.PointRows.{row_line}

-- ---- a record of texts

abbrev pub fields_of : List ℕ → List ℕ → List ℕ → List ℕ → List ℕ → List ℕ → List ℕ → ℕ → List (List ℕ)
fields_of name word from to to2 sd sdh price = name ∷ word ∷ from ∷ to ∷ to2 ∷ sd ∷ sdh ∷ decimal price ∷ []

-- a text is the name of the point of this number, which has both parts
pub record IsNamed (points : List PointRecord) (text : List ℕ) (place : ℕ) : Type 0 where
  pub at : place_of text (point_names points) ≡ Some place
  pub plane : lacks_plane points place ≡ false
  pub height : lacks_height points place ≡ false
  pub plain : IsPlain text

-- what the fields after the ends give
record IsForesightText (points : List PointRecord) (k : Kind) (text : List ℕ) (to2 : Option ℕ) : Type 0 where
  pub kept : first_broken (foresight_rules points k text) ≡ None
  pub reads : IsForesight points k text to2
  pub plain : IsPlain text

record IsDeviationText (text : List ℕ) (sd : ℕ) : Type 0 where
  pub kept : first_broken (deviation_rules text) ≡ None
  pub reads : sd ≡ deviation_of text
  pub plain : IsPlain text

record IsHeightText (k : Kind) (text : List ℕ) (sdh : Option ℕ) : Type 0 where
  pub kept : first_broken (height_rules k text) ≡ None
  pub reads : sdh ≡ height_deviation_of k text
  pub plain : IsPlain text

-- the row is a line of the table, stands for a candidate, and breaks no rule
pub record IsCandidateRow (points : List PointRecord) (row : List (List ℕ)) (candidate : CandidateRecord) : Type 0 where
  pub is_line : IsLine row
  pub reads : candidate_record_of points row ≡ candidate
  pub kept : IsKeptRow (candidate_rules points) row

kind-kept : (text : List ℕ) (k : Kind) → kind_named text ≡ Some k → first_broken (kind_rules text) ≡ None
unfolding kind_rules first_broken
kind-kept text k e = rw e refl

price-number : (n : ℕ) → n ≤ 1000 → IsNumber 0 (pos 0) (pos (10 ^ 9)) (decimal n) (pos n)
price-number n small = record { written = decimal-read n (omega arith); low = omega (arith, ints); high = omega (arith, ints) }

price-kept : (n : ℕ) → n ≤ 1000 → first_broken (price_rules (decimal n)) ≡ None
price-kept n small =
    let is = price-number n small in
    ap first_broken (price-is (decimal n)) ∙ number-within number_kinds 0 (pos 0) (pos (10 ^ 9)) (decimal n) (pos n) is.written is.low is.high

small-plain : (n : ℕ) → n ≤ 1000 → IsPlain (decimal n)
small-plain n small = decimal-plain n (omega arith)

candidate-row : (points : List PointRecord) (k : Kind) (name word from_text to_text to2_text sd_text sdh_text : List ℕ) (from to : ℕ) (to2 : Option ℕ) (sd : ℕ) (sdh : Option ℕ) (price : ℕ)
    → IsPlain name → IsPlain word → kind_named word ≡ Some k → IsNamed points from_text from → IsNamed points to_text to → IsForesightText points k to2_text to2
    → first_broken (place_rules points (fields_of name word from_text to_text to2_text sd_text sdh_text price) k from to to2) ≡ None
    → IsDeviationText sd_text sd → IsHeightText k sdh_text sdh → price ≤ 1000
    → IsCandidateRow points (fields_of name word from_text to_text to2_text sd_text sdh_text price)
    (record { name = name; kind = k; from = from; to = to; to2 = to2; sd = sd; sdh = sdh; price = price })
candidate-row points k name word from_text to_text to2_text sd_text sdh_text from to to2 sd sdh price plain_name plain_word is_kind named_from named_to foresight places deviation height small =
    let row = fields_of name word from_text to_text to2_text sd_text sdh_text price in
    let from_found = point-found points from_text from named_from.at in
    let to_found = point-found points to_text to named_to.at in
    let is : k ≡ kind_at row = kind-at row k is_kind in
    let plain : AllByRecursion IsPlain row =
    (plain_name, (plain_word, (named_from.plain, (named_to.plain, (foresight.plain, (deviation.plain, (height.plain, (small-plain price small, tt)))))))) in
    let ends : IsEnds points row (record { kind = k; from = from; to = to; to2 = to2 }) =
    ends-read points row (record { kind = k; from = from; to = to; to2 = to2 }) is from_found.1 to_found.1 foresight.reads in
    let figures : AreFigures k row (record { sd = sd; sdh = sdh; price = price }) =
    record { sd = deviation.reads; sdh = height.reads; price = price-read (decimal price) (pos price) price (price-number price small) refl } in
    let foresight_kept : first_broken (foresight_rules points (kind_at row) to2_text) ≡ None =
    subst (λ (given : Kind). first_broken (foresight_rules points given to2_text) ≡ None) is foresight.kept in
    record {
      is_line = plain;
      reads =
          sym (read-candidate points row name (record { kind = k; from = from; to = to; to2 = to2 }) (record { sd = sd; sdh = sdh; price = price }) refl
          (columns-read points row (record { kind = k; from = from; to = to; to2 = to2 }) (record { sd = sd; sdh = sdh; price = price }) ends figures));
      kept = record {
        right = refl;
        plain = plain;
        columns =
            columns-figures points row (record { kind = k; from = from; to = to; to2 = to2 }) None ends
            (broken-to2 points row None (kind-kept word k is_kind) from_found.0 to_found.0 foresight_kept) places
            (broken-price k row None deviation.kept height.kept (price-kept price small));
      };
    }

-- ---- the fields that are always the same

deviation-8 : IsDeviationText (codes "8.00") 800
unfolding deviation_rules number_rules deviation_of decimal_of unsigned_of fraction_of first_broken
deviation-8 = record { kept = refl; reads = refl; plain = plain-tested (codes "8.00") refl }

deviation-10 : IsDeviationText (codes "10.00") 1000
unfolding deviation_rules number_rules deviation_of decimal_of unsigned_of fraction_of first_broken
deviation-10 = record { kept = refl; reads = refl; plain = plain-tested (codes "10.00") refl }

deviation-15 : IsDeviationText (codes "15.00") 1500
unfolding deviation_rules number_rules deviation_of decimal_of unsigned_of fraction_of first_broken
deviation-15 = record { kept = refl; reads = refl; plain = plain-tested (codes "15.00") refl }

no-foresight : (points : List PointRecord) (k : Kind) → (rules_of k).has_foresight ≡ false → IsForesightText points k (codes "") None
no-foresight points k e = record { kept = (foresight-other points k (codes "") e).0; reads = (foresight-other points k (codes "") e).1; plain = tt }

no-height : (k : Kind) → (rules_of k).has_height_deviation ≡ false → IsHeightText k (codes "") None
no-height k e = record { kept = (height-other k (codes "") e).0; reads = (height-other k (codes "") e).1; plain = tt }

height-15 : IsHeightText kind.Vector (codes "15.00") (Some 1500)
unfolding rules_of height_rules height_deviation_of
height-15 = record { kept = deviation-15.kept; reads = ap Some deviation-15.reads; plain = deviation-15.plain }

angle-foresight : (points : List PointRecord) (text : List ℕ) (place : ℕ) → IsNamed points text place → IsForesightText points kind.Angle text (Some place)
unfolding rules_of
angle-foresight points text place named =
    let found = point-found points text place named.at in
    record { kept = ap first_broken (foresight-rules points kind.Angle text refl) ∙ found.0; reads = foresight-found points kind.Angle text place refl found.1; plain = named.plain }

-- ---- the rules on the points

-- the square of a line's length is within the bounds of each kind
record IsBetweenBounds (points : List PointRecord) (a b : ℕ) : Type 0 where
  pub from_1_m : nat_lt (length_squared points a b) 1000000 ≡ false
  pub from_10_m : nat_lt (length_squared points a b) 100000000 ≡ false
  pub to_100_km : nat_lt 10000000000000000 (length_squared points a b) ≡ false

squares-between : (p q : ℕ) → 800000 ≤ p → p ≤ 5000000 → 800000 ≤ q → q ≤ 5000000 → (100000000 ≤ p * p + q * q) × (p * p + q * q ≤ 10000000000000000)
squares-between p q p_low p_high q_low q_high =
    let low : 800000 * 800000 ≤ p * p = mul-le-mul p_low p_low in
    let high_p : p * p ≤ 5000000 * 5000000 = mul-le-mul p_high p_high in
    let high_q : q * q ≤ 5000000 * 5000000 = mul-le-mul q_high q_high in
    (omega arith, omega arith)

tested : (n : ℕ) → 100000000 ≤ n → n ≤ 10000000000000000 → (nat_lt n 1000000 ≡ false) × (nat_lt n 100000000 ≡ false) × (nat_lt 10000000000000000 n ≡ false)
tested n low high = (grind (arith, nat_tests), grind (arith, nat_tests), grind (arith, nat_tests))

long-between : (points : List PointRecord) (a b : ℕ) → IsLong points a b → IsBetweenBounds points a b
unfolding length_squared
long-between points a b long =
    let (low, high) = squares-between (unsigned_abs (x_at points b -ℤ x_at points a)) (unsigned_abs (y_at points b -ℤ y_at points a)) long.x_low long.x_high long.y_low long.y_high in
    let (near, near_10, far) = tested (length_squared points a b) low high in
    record { from_1_m = near; from_10_m = near_10; to_100_km = far }

module _ (points : List PointRecord) (row : List (List ℕ)) (from to : ℕ) (from_text to_text : List ℕ) where
  distance-places : is_empty (text_at row 4) ≡ true → is_empty (text_at row 6) ≡ true → (from == to) ≡ false → IsNamed points from_text from → IsNamed points to_text to
      → IsBetweenBounds points from to → first_broken (place_rules points row kind.Distance from to None) ≡ None
  unfolding place_rules extra_rules needed_part_rules lines_rules length_rules bound_rules rules_of first_broken
  distance-places no_to2 no_sdh apart at_from at_to between = rw (no_to2, no_sdh, apart, at_from.plane, at_to.plane, between.from_1_m, between.to_100_km) refl

  direction-places : is_empty (text_at row 4) ≡ true → is_empty (text_at row 6) ≡ true → (from == to) ≡ false → IsNamed points from_text from → IsNamed points to_text to
      → IsBetweenBounds points from to → first_broken (place_rules points row kind.Direction from to None) ≡ None
  unfolding place_rules extra_rules needed_part_rules lines_rules length_rules bound_rules rules_of first_broken
  direction-places no_to2 no_sdh apart at_from at_to between = rw (no_to2, no_sdh, apart, at_from.plane, at_to.plane, between.from_10_m, between.to_100_km) refl

  level-places : is_empty (text_at row 4) ≡ true → is_empty (text_at row 6) ≡ true → (from == to) ≡ false → IsNamed points from_text from → IsNamed points to_text to
      → first_broken (place_rules points row kind.Level from to None) ≡ None
  unfolding place_rules extra_rules needed_part_rules lines_rules length_rules rules_of first_broken
  level-places no_to2 no_sdh apart at_from at_to = rw (no_to2, no_sdh, apart, at_from.height, at_to.height) refl

  vector-places : is_empty (text_at row 4) ≡ true → (from == to) ≡ false → IsNamed points from_text from → IsNamed points to_text to
      → first_broken (place_rules points row kind.Vector from to None) ≡ None
  unfolding place_rules extra_rules needed_part_rules lines_rules length_rules rules_of first_broken
  vector-places no_to2 apart at_from at_to = rw (no_to2, apart, at_from.plane, at_to.plane, at_from.height, at_to.height) refl

  angle-places : (to2 : ℕ) (to2_text : List ℕ) → is_empty (text_at row 6) ≡ true → (from == to) ≡ false → (from == to2) ≡ false → (to == to2) ≡ false
      → IsNamed points from_text from → IsNamed points to_text to → IsNamed points to2_text to2 → IsBetweenBounds points from to → IsBetweenBounds points from to2
      → first_broken (place_rules points row kind.Angle from to (Some to2)) ≡ None
  unfolding place_rules extra_rules needed_part_rules lines_rules length_rules bound_rules rules_of first_broken
  angle-places to2 to2_text no_sdh apart apart_from apart_to at_from at_to at_to2 between between_to2 =
      rw (no_sdh, apart, apart_from, apart_to, at_from.plane, at_to.plane, at_to2.plane, between.from_10_m, between.to_100_km, between_to2.from_10_m, between_to2.to_100_km) refl

-- ---- the records of each kind

unfoldable pub vector_row : ℕ → ℕ → ℕ → List ℕ → List ℕ → List (List ℕ)
vector_row seed price number from to = fields_of (label (codes "v") number) (codes "vector") from to (codes "") (codes "10.00") (codes "15.00") (40 + drawn seed price 20)

unfoldable pub distance_row : ℕ → ℕ → ℕ → List ℕ → List ℕ → List (List ℕ)
distance_row seed price number from to = fields_of (label (codes "d") number) (codes "distance") from to (codes "") (codes "8.00") (codes "") (150 + drawn seed price 50)

unfoldable pub direction_row : ℕ → ℕ → ℕ → List ℕ → List ℕ → List (List ℕ)
direction_row seed price number from to = fields_of (label (codes "r") number) (codes "direction") from to (codes "") (codes "10.00") (codes "") (150 + drawn seed price 50)

unfoldable pub angle_row : ℕ → ℕ → ℕ → List ℕ → List ℕ → List ℕ → List (List ℕ)
angle_row seed price number from to to2 = fields_of (label (codes "a") number) (codes "angle") from to to2 (codes "15.00") (codes "") (150 + drawn seed price 50)

unfoldable pub level_row : ℕ → ℕ → ℕ → List ℕ → List ℕ → List (List ℕ)
level_row seed price number from to = fields_of (label (codes "l") number) (codes "level") from to (codes "") (codes "10.00") (codes "") (100 + drawn seed price 50)

label-plain : (letter : List ℕ) (n : ℕ) → IsPlain letter → n ≤ 1000 → IsPlain (label letter n)
label-plain letter n plain small = plain-append letter (decimal n) plain (small-plain n small)

price-small : (base seed price n : ℕ) → base ≤ 500 → 0 < n → n ≤ 500 → base + drawn seed price n ≤ 1000
price-small base seed price n low some few = below (drawn seed price n) (drawn-below seed price n some)
  where
    below : (d : ℕ) → d < n → base + d ≤ 1000
    below d h = omega arith

module _ (points : List PointRecord) (seed price number : ℕ) (from_text to_text : List ℕ) (from to : ℕ) (small : number ≤ 1000) (apart : (from == to) ≡ false)
    (at_from : IsNamed points from_text from) (at_to : IsNamed points to_text to) where
  pub vector-row : IsCandidateRow points (vector_row seed price number from_text to_text) (vector_record seed price number from to)
  unfolding vector_row vector_record kind_named rules_of
  vector-row =
      candidate-row points kind.Vector (label (codes "v") number) (codes "vector") from_text to_text (codes "") (codes "10.00") (codes "15.00") from to None 1000 (Some 1500) (40 + drawn seed price 20)
      (label-plain (codes "v") number (plain-tested (codes "v") refl) small) (plain-tested (codes "vector") refl) refl at_from at_to (no-foresight points kind.Vector refl)
      (vector-places points (fields_of (label (codes "v") number) (codes "vector") from_text to_text (codes "") (codes "10.00") (codes "15.00") (40 + drawn seed price 20)) from to from_text to_text refl apart at_from at_to)
      deviation-10 height-15 (price-small 40 seed price 20 (omega arith) (omega arith) (omega arith))

  pub level-row : IsCandidateRow points (level_row seed price number from_text to_text) (level_record seed price number from to)
  unfolding level_row level_record kind_named rules_of
  level-row =
      candidate-row points kind.Level (label (codes "l") number) (codes "level") from_text to_text (codes "") (codes "10.00") (codes "") from to None 1000 None (100 + drawn seed price 50)
      (label-plain (codes "l") number (plain-tested (codes "l") refl) small) (plain-tested (codes "level") refl) refl at_from at_to (no-foresight points kind.Level refl)
      (level-places points (fields_of (label (codes "l") number) (codes "level") from_text to_text (codes "") (codes "10.00") (codes "") (100 + drawn seed price 50)) from to from_text to_text refl refl apart at_from at_to)
      deviation-10 (no-height kind.Level refl) (price-small 100 seed price 50 (omega arith) (omega arith) (omega arith))

  pub distance-row : IsLong points from to → IsCandidateRow points (distance_row seed price number from_text to_text) (distance_record seed price number from to)
  unfolding distance_row distance_record kind_named rules_of
  distance-row long =
      candidate-row points kind.Distance (label (codes "d") number) (codes "distance") from_text to_text (codes "") (codes "8.00") (codes "") from to None 800 None (150 + drawn seed price 50)
      (label-plain (codes "d") number (plain-tested (codes "d") refl) small) (plain-tested (codes "distance") refl) refl at_from at_to (no-foresight points kind.Distance refl)
      (distance-places points (fields_of (label (codes "d") number) (codes "distance") from_text to_text (codes "") (codes "8.00") (codes "") (150 + drawn seed price 50)) from to from_text to_text refl refl apart at_from at_to
      (long-between points from to long))
      deviation-8 (no-height kind.Distance refl) (price-small 150 seed price 50 (omega arith) (omega arith) (omega arith))

  pub direction-row : IsLong points from to → IsCandidateRow points (direction_row seed price number from_text to_text) (direction_record seed price number from to)
  unfolding direction_row direction_record kind_named rules_of
  direction-row long =
      candidate-row points kind.Direction (label (codes "r") number) (codes "direction") from_text to_text (codes "") (codes "10.00") (codes "") from to None 1000 None (150 + drawn seed price 50)
      (label-plain (codes "r") number (plain-tested (codes "r") refl) small) (plain-tested (codes "direction") refl) refl at_from at_to (no-foresight points kind.Direction refl)
      (direction-places points (fields_of (label (codes "r") number) (codes "direction") from_text to_text (codes "") (codes "10.00") (codes "") (150 + drawn seed price 50)) from to from_text to_text refl refl apart at_from at_to
      (long-between points from to long))
      deviation-10 (no-height kind.Direction refl) (price-small 150 seed price 50 (omega arith) (omega arith) (omega arith))

  pub angle-row : (to2_text : List ℕ) (to2 : ℕ) → (from == to2) ≡ false → (to == to2) ≡ false → IsNamed points to2_text to2 → IsLong points from to → IsLong points from to2
      → IsCandidateRow points (angle_row seed price number from_text to_text to2_text) (angle_record seed price number from to to2)
  unfolding angle_row angle_record kind_named rules_of
  angle-row to2_text to2 apart_from apart_to at_to2 long long_to2 =
      candidate-row points kind.Angle (label (codes "a") number) (codes "angle") from_text to_text to2_text (codes "15.00") (codes "") from to (Some to2) 1500 None (150 + drawn seed price 50)
      (label-plain (codes "a") number (plain-tested (codes "a") refl) small) (plain-tested (codes "angle") refl) refl at_from at_to (angle-foresight points to2_text to2 at_to2)
      (angle-places points (fields_of (label (codes "a") number) (codes "angle") from_text to_text to2_text (codes "15.00") (codes "") (150 + drawn seed price 50)) from to from_text to_text to2 to2_text refl
      apart apart_from apart_to at_from at_to at_to2 (long-between points from to long) (long-between points from to2 long_to2))
      deviation-15 (no-height kind.Angle refl) (price-small 150 seed price 50 (omega arith) (omega arith) (omega arith))

-- ---- their lines

fields-text : (a b c d e f g h : List ℕ)
    → (a ++ codes ",") ++ ((b ++ codes ",") ++ ((c ++ codes ",") ++ ((d ++ codes ",") ++ ((e ++ codes ",") ++ ((f ++ codes ",") ++ ((g ++ codes ",") ++ (h ++ codes "\n")))))))
    ≡ line a (b ∷ c ∷ d ∷ e ∷ f ∷ g ∷ h ∷ [])
unfolding line_rest
fields-text a b c d e f g h = simp append_assoc

text-line : (name word from to to2 sd sdh : List ℕ) (price : ℕ) → candidate_line name word from to to2 sd sdh price ≡ row_line (fields_of name word from to to2 sd sdh price)
unfolding row_line
text-line name word from to to2 sd sdh price = fields-text name word from to to2 sd sdh (decimal price)

module _ (seed price number : ℕ) (from to : List ℕ) where
  pub vector-line : vector_line seed price number from to ≡ row_line (vector_row seed price number from to)
  unfolding vector_line vector_row
  vector-line = text-line (label (codes "v") number) (codes "vector") from to (codes "") (codes "10.00") (codes "15.00") (40 + drawn seed price 20)

  pub distance-line : distance_line seed price number from to ≡ row_line (distance_row seed price number from to)
  unfolding distance_line distance_row
  distance-line = text-line (label (codes "d") number) (codes "distance") from to (codes "") (codes "8.00") (codes "") (150 + drawn seed price 50)

  pub direction-line : direction_line seed price number from to ≡ row_line (direction_row seed price number from to)
  unfolding direction_line direction_row
  direction-line = text-line (label (codes "r") number) (codes "direction") from to (codes "") (codes "10.00") (codes "") (150 + drawn seed price 50)

  pub angle-line : (to2 : List ℕ) → angle_line seed price number from to to2 ≡ row_line (angle_row seed price number from to to2)
  unfolding angle_line angle_row
  angle-line to2 = text-line (label (codes "a") number) (codes "angle") from to to2 (codes "15.00") (codes "") (150 + drawn seed price 50)

  pub level-line : level_line seed price number from to ≡ row_line (level_row seed price number from to)
  unfolding level_line level_row
  level-line = text-line (label (codes "l") number) (codes "level") from to (codes "") (codes "10.00") (codes "") (100 + drawn seed price 50)
