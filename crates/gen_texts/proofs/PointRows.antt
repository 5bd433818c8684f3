-- The lines of a points table, as records of texts: they are read back as the points of the seed, and break no rule.
use Rattle.std.proofs.Common.{◌≡◌, ◌∙◌, ◌<◌, ◌≤◌, ◌+◌, ◌*◌, ◌^◌, ℕ, false, List, [], ◌∷◌, ◌++◌, Some, None, refl, sym, ap, arith, pos, neg_ℤ, append_assoc}
use Rattle.std.specs.Prelude.{codes}
use Rattle.std.proofs.lemmas.Int.{ints}
use Rattle.table_rows.specs.Faults.{first_broken}
use Rattle.table_columns.specs.Columns.{IsNumber}
use Rattle.table_columns.proofs.NumberFacts.{number-within}
use Rattle.point_tables.specs.declared.part.Part.{Part}
use Rattle.point_tables.specs.declared.part.Part.TheVariants as part
use Rattle.point_tables.specs.declared.record.PointRecord.{PointRecord}
use Rattle.point_tables.specs.Columns.{number_kinds}
use Rattle.point_tables.specs.PointTable.{coordinate_rules, part_rules, point_of, point_rules}
use Rattle.point_tables.specs.Read.{IsCoordinateOf, IsPartOf, has_missing}
use Rattle.point_tables.proofs.ColumnFacts.{broken-missing, coordinate-given, coordinate-some, missing-none, part-fixed, part-given, part-new}
use Rattle.point_tables.proofs.RecordFacts.{read-point}
use Rattle.gen_net.specs.Draws.{drawn}
use Rattle.gen_net.specs.Fields.{metres, tenths}
use Rattle.gen_net.specs.Points.{fixed_line, new_line}
use Rattle.gen_records.specs.Records.{fixed_point, new_point}
use Rattle.gen_records.proofs.CountFacts.{drawn-below}
use Rattle.gen_texts.proofs.KeptRules.{IsKeptRow}
use Rattle.gen_texts.proofs.NumberFields.{metres-plain, metres-read, read-not_fixed, read-some, tenths-plain, tenths-read}
use Rattle.gen_texts.proofs.PlainLines.{IsLine, line, line_rest}
use Rattle.gen_texts.proofs.PlainTexts.{IsPlain, plain-tested}

-- ---- a coordinate

-- a coordinate below 10 km is within the bounds of coordinates
coordinate-number : (n : ℕ) → n < 10000000 → IsNumber 3 (neg_ℤ (pos (10 ^ 11))) (pos (10 ^ 11)) (metres n) (pos n)
coordinate-number n small = record { written = metres-read n (omega arith); low = omega (arith, ints); high = omega (arith, ints) }

-- it breaks no rule, and is read as itself
pub record IsKeptCoordinate (text : List ℕ) (n : ℕ) : Type 0 where
  pub kept : first_broken (coordinate_rules text) ≡ None
  pub reads : IsCoordinateOf text (Some (pos n))
  pub plain : IsPlain text

pub coordinate-of : (n : ℕ) → n < 10000000 → IsKeptCoordinate (metres n) n
coordinate-of n small =
    let is = coordinate-number n small in
    let some = read-some 3 (metres n) (pos n) is.written in
    record {
      kept = ap first_broken (coordinate-given (metres n) some) ∙ number-within number_kinds 3 (neg_ℤ (pos (10 ^ 11))) (pos (10 ^ 11)) (metres n) (pos n) is.written is.low is.high;
      reads = coordinate-some (metres n) (pos n) some is;
      plain = metres-plain n (omega arith);
    }

-- ---- a part

pub record IsKeptPart (text : List ℕ) (given : Part) : Type 0 where
  pub kept : first_broken (part_rules text) ≡ None
  pub reads : IsPartOf text given
  pub plain : IsPlain text

pub fixed-of : IsKeptPart (codes "fixed") part.Fixed
fixed-of = record {
  kept = (part-fixed (codes "fixed") refl refl).0;
  reads = (part-fixed (codes "fixed") refl refl).1;
  plain = plain-tested (codes "fixed") refl;
}

limit-number : (n : ℕ) → 1 ≤ n → n ≤ 1000 → IsNumber 1 (pos 1) (pos 1000) (tenths n) (pos n)
limit-number n least most = record { written = tenths-read n (omega arith); low = omega (arith, ints); high = omega (arith, ints) }

pub limit-of : (n : ℕ) → 1 ≤ n → n ≤ 1000 → IsKeptPart (tenths n) (part.New n)
limit-of n least most =
    let is = limit-number n least most in
    let some = read-some 1 (tenths n) (pos n) is.written in
    let other = read-not_fixed 1 (tenths n) (pos n) is.written in
    record {
      kept = ap first_broken (part-given (tenths n) some other) ∙ number-within number_kinds 1 (pos 1) (pos 1000) (tenths n) (pos n) is.written is.low is.high;
      reads = part-new (tenths n) (pos n) n some other is refl;
      plain = tenths-plain n (omega arith);
    }

-- ---- a record

-- a record of a name, three coordinates and two parts
abbrev pub row_of : List ℕ → ℕ → ℕ → ℕ → List ℕ → List ℕ → List (List ℕ)
row_of name x y z plane height = name ∷ metres x ∷ metres y ∷ metres z ∷ plane ∷ height ∷ []

-- it is a line of the table, stands for a point, and its columns break no rule
pub record IsPointRow (row : List (List ℕ)) (point : PointRecord) : Type 0 where
  pub is_line : IsLine row
  pub reads : point_of row ≡ point
  pub kept : IsKeptRow point_rules row

point-row : (name : List ℕ) (x y z : ℕ) (plane height : List ℕ) (p h : Part) → IsPlain name → IsKeptCoordinate (metres x) x → IsKeptCoordinate (metres y) y → IsKeptCoordinate (metres z) z
    → IsKeptPart plane p → IsKeptPart height h
    → has_missing (record { x = Some (pos x); y = Some (pos y); z = Some (pos z); plane = p; height = h }) ≡ false
    → IsPointRow (row_of name x y z plane height) (record { name = name; x = Some (pos x); y = Some (pos y); z = Some (pos z); plane = p; height = h })
point-row name x y z plane height p h plain in_x in_y in_z in_plane in_height complete = record {
  is_line = (plain, (in_x.plain, (in_y.plain, (in_z.plain, (in_plane.plain, (in_height.plain, tt))))));
  reads =
      sym (read-point (row_of name x y z plane height) name (record { x = Some (pos x); y = Some (pos y); z = Some (pos z); plane = p; height = h }) refl
      (record { x = in_x.reads; y = in_y.reads; z = in_z.reads; plane = in_plane.reads; height = in_height.reads; complete = complete }));
  kept = record {
    right = refl;
    plain = (plain, (in_x.plain, (in_y.plain, (in_z.plain, (in_plane.plain, (in_height.plain, tt))))));
    columns =
        broken-missing (row_of name x y z plane height) None in_x.kept in_y.kept in_z.kept in_plane.kept in_height.kept
        (missing-none (row_of name x y z plane height) (record { x = Some (pos x); y = Some (pos y); z = Some (pos z); plane = p; height = h })
        in_x.reads in_y.reads in_z.reads in_plane.reads in_height.reads complete);
  };
}

-- coordinates near the corners of the square
near-small : (m d spread : ℕ) → m ≤ 5000 → d < spread → spread ≤ 200000 → 1000 * m + d < 10000000
near-small m d spread low below most = omega arith

high-small : (d : ℕ) → d < 50000 → 100000 + d < 10000000
high-small d below = omega arith

-- ---- the records of a seed

unfoldable pub fixed_row : ℕ → ℕ → List ℕ → ℕ → ℕ → List (List ℕ)
fixed_row seed first name x y =
    row_of name (1000 * x + drawn seed first 100000) (1000 * y + drawn seed (first + 1) 100000) (100000 + drawn seed (first + 2) 50000) (codes "fixed") (codes "fixed")

unfoldable pub new_row : ℕ → ℕ → List ℕ → ℕ → ℕ → List (List ℕ)
new_row seed first name x y =
    row_of name (1000 * x + drawn seed first 200000) (1000 * y + drawn seed (first + 1) 200000) (100000 + drawn seed (first + 2) 50000)
    (tenths (75 + drawn seed (first + 3) 6)) (tenths (110 + drawn seed (first + 4) 11))

near-of : (m seed place spread : ℕ) → m ≤ 5000 → 0 < spread → spread ≤ 200000 → IsKeptCoordinate (metres (1000 * m + drawn seed place spread)) (1000 * m + drawn seed place spread)
near-of m seed place spread low some most = coordinate-of (1000 * m + drawn seed place spread) (near-small m (drawn seed place spread) spread low (drawn-below seed place spread some) most)

height-of : (seed place : ℕ) → IsKeptCoordinate (metres (100000 + drawn seed place 50000)) (100000 + drawn seed place 50000)
height-of seed place = coordinate-of (100000 + drawn seed place 50000) (high-small (drawn seed place 50000) (drawn-below seed place 50000 (omega arith)))

drawn-limit : (least seed place n : ℕ) → 1 ≤ least → least ≤ 500 → 0 < n → n ≤ 500 → IsKeptPart (tenths (least + drawn seed place n)) (part.New (least + drawn seed place n))
drawn-limit least seed place n some low more most =
    let small = sum (drawn seed place n) (drawn-below seed place n more) in
    limit-of (least + drawn seed place n) small.0 small.1
  where
    sum : (d : ℕ) → d < n → (1 ≤ least + d) × (least + d ≤ 1000)
    sum d below = (omega arith, omega arith)

pub fixed-row : (seed first : ℕ) (name : List ℕ) (x y : ℕ) → IsPlain name → x ≤ 5000 → y ≤ 5000 → IsPointRow (fixed_row seed first name x y) (fixed_point seed first name x y)
unfolding fixed_row fixed_point
fixed-row seed first name x y plain low_x low_y =
    point-row name (1000 * x + drawn seed first 100000) (1000 * y + drawn seed (first + 1) 100000) (100000 + drawn seed (first + 2) 50000) (codes "fixed") (codes "fixed") part.Fixed part.Fixed plain
    (near-of x seed first 100000 low_x (omega arith) (omega arith)) (near-of y seed (first + 1) 100000 low_y (omega arith) (omega arith)) (height-of seed (first + 2))
    fixed-of fixed-of refl

pub new-row : (seed first : ℕ) (name : List ℕ) (x y : ℕ) → IsPlain name → x ≤ 5000 → y ≤ 5000 → IsPointRow (new_row seed first name x y) (new_point seed first name x y)
unfolding new_row new_point
new-row seed first name x y plain low_x low_y =
    point-row name (1000 * x + drawn seed first 200000) (1000 * y + drawn seed (first + 1) 200000) (100000 + drawn seed (first + 2) 50000)
    (tenths (75 + drawn seed (first + 3) 6)) (tenths (110 + drawn seed (first + 4) 11)) (part.New (75 + drawn seed (first + 3) 6)) (part.New (110 + drawn seed (first + 4) 11)) plain
    (near-of x seed first 200000 low_x (omega arith) (omega arith)) (near-of y seed (first + 1) 200000 low_y (omega arith) (omega arith)) (height-of seed (first + 2))
    (drawn-limit 75 seed (first + 3) 6 (omega arith) (omega arith) (omega arith) (omega arith)) (drawn-limit 110 seed (first + 4) 11 (omega arith) (omega arith) (omega arith) (omega arith)) refl

-- ---- their lines

-- the text of a record's texts
unfoldable pub row_line : List (List ℕ) → List ℕ
row_line [] = []
row_line (first ∷ rest) = line first rest

fixed-text : (a b c d : List ℕ)
    → ((a ++ codes ",") ++ ((b ++ codes ",") ++ ((c ++ codes ",") ++ (d ++ codes ",")))) ++ codes "fixed,fixed\n" ≡ line a (b ∷ c ∷ d ∷ codes "fixed" ∷ codes "fixed" ∷ [])
unfolding line_rest
fixed-text a b c d = simp append_assoc

new-text : (a b c d e f : List ℕ)
    → ((a ++ codes ",") ++ ((b ++ codes ",") ++ ((c ++ codes ",") ++ (d ++ codes ",")))) ++ ((e ++ codes ",") ++ (f ++ codes "\n")) ≡ line a (b ∷ c ∷ d ∷ e ∷ f ∷ [])
unfolding line_rest
new-text a b c d e f = simp append_assoc

pub fixed-line : (seed first : ℕ) (name : List ℕ) (x y : ℕ) → fixed_line seed first name x y ≡ row_line (fixed_row seed first name x y)
unfolding fixed_line fixed_row row_line
fixed-line seed first name x y =
    fixed-text name (metres (1000 * x + drawn seed first 100000)) (metres (1000 * y + drawn seed (first + 1) 100000)) (metres (100000 + drawn seed (first + 2) 50000))

pub new-line : (seed first : ℕ) (name : List ℕ) (x y : ℕ) → new_line seed first name x y ≡ row_line (new_row seed first name x y)
unfolding new_line new_row row_line
new-line seed first name x y =
    new-text name (metres (1000 * x + drawn seed first 200000)) (metres (1000 * y + drawn seed (first + 1) 200000)) (metres (100000 + drawn seed (first + 2) 50000))
    (tenths (75 + drawn seed (first + 3) 6)) (tenths (110 + drawn seed (first + 4) 11))
