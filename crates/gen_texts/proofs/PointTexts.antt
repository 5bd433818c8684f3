-- The points table of a seed is accepted, and stands for the points of the seed.
use Rattle.std.proofs.Common.{◌≡◌, ◌∙◌, ℕ, true, List, [], ◌∷◌, ◌++◌, Some, None, map, refl, sym, ap, ap₂, arith, append_assoc, drop}
use Rattle.std.specs.Prelude.{codes}
use Rattle.std.specs.List.{AllByRecursion}
use Rattle.std.proofs.lemmas.List.{append-nil}
use Rattle.table_rows.specs.Faults.{first_fault}
use Rattle.table_rows.specs.Header.{rows_under}
use Rattle.table_rows.specs.Rows.{table_rows}
use Rattle.table_columns.specs.Columns.{named_table}
use Rattle.table_columns.specs.Names.{is_among}
use Rattle.point_tables.specs.declared.record.PointRecord.{PointRecord}
use Rattle.point_tables.specs.PointTable.{point_header, point_of, point_rules, points_fault, points_of}
use Rattle.gen_net.specs.Points.{fixed_line, new_line, points_text}
use Rattle.gen_records.specs.Records.{fixed_point, new_point, point_records}
use Rattle.gen_texts.proofs.KeptRules.{IsKeptRow, are_fresh, fresh-kept, table-kept}
use Rattle.gen_texts.proofs.PlainLines.{IsLine, line_rest, lines, rows-read, under-read}
use Rattle.gen_texts.proofs.PlainTexts.{plain-tested}
use Rattle.gen_texts.proofs.PointRows.{IsPointRow, fixed-line, fixed-row, fixed_row, new-line, new-row, new_row, row_line}

-- the records of the table as texts
unfoldable pub point_rows : ℕ → List (List (List ℕ))
point_rows seed =
    fixed_row seed 0 (codes "F1") 1000 1000
    ∷ fixed_row seed 3 (codes "F2") 1000 5000
    ∷ fixed_row seed 6 (codes "F3") 5000 1000
    ∷ fixed_row seed 9 (codes "F4") 5000 5000
    ∷ new_row seed 12 (codes "N1") 2000 2000
    ∷ new_row seed 17 (codes "N2") 2000 4000
    ∷ new_row seed 22 (codes "N3") 3000 3000
    ∷ new_row seed 27 (codes "N4") 4000 2000
    ∷ new_row seed 32 (codes "N5") 4000 4000
    ∷ []

-- ---- the text

pub lines-cons : (row : List (List ℕ)) (rows : List (List (List ℕ))) → lines (row ∷ rows) ≡ row_line row ++ lines rows
unfolding row_line
lines-cons [] rows = refl
lines-cons (first ∷ rest) rows = refl

joined : (h a b c d e f g i j : List ℕ)
    → h ++ ((a ++ (b ++ (c ++ d))) ++ (e ++ (f ++ (g ++ (i ++ j))))) ≡ h ++ (a ++ (b ++ (c ++ (d ++ (e ++ (f ++ (g ++ (i ++ (j ++ [])))))))))
joined h a b c d e f g i j = simp (append_assoc, append-nil)

header-line : codes "name,x,y,z,plane,height\n" ≡ row_line point_header
unfolding row_line line_rest
header-line = refl

nine : (h a b c d e f g i j : List (List ℕ))
    → row_line h ++ (row_line a ++ (row_line b ++ (row_line c ++ (row_line d ++ (row_line e ++ (row_line f ++ (row_line g ++ (row_line i ++ (row_line j ++ [])))))))))
    ≡ lines (h ∷ a ∷ b ∷ c ∷ d ∷ e ∷ f ∷ g ∷ i ∷ j ∷ [])
nine h a b c d e f g i j =
    sym (lines-cons h (a ∷ b ∷ c ∷ d ∷ e ∷ f ∷ g ∷ i ∷ j ∷ [])
    ∙ ap (λ (t : List ℕ). row_line h ++ t) (lines-cons a (b ∷ c ∷ d ∷ e ∷ f ∷ g ∷ i ∷ j ∷ [])
    ∙ ap (λ (t : List ℕ). row_line a ++ t) (lines-cons b (c ∷ d ∷ e ∷ f ∷ g ∷ i ∷ j ∷ [])
    ∙ ap (λ (t : List ℕ). row_line b ++ t) (lines-cons c (d ∷ e ∷ f ∷ g ∷ i ∷ j ∷ [])
    ∙ ap (λ (t : List ℕ). row_line c ++ t) (lines-cons d (e ∷ f ∷ g ∷ i ∷ j ∷ [])
    ∙ ap (λ (t : List ℕ). row_line d ++ t) (lines-cons e (f ∷ g ∷ i ∷ j ∷ [])
    ∙ ap (λ (t : List ℕ). row_line e ++ t) (lines-cons f (g ∷ i ∷ j ∷ [])
    ∙ ap (λ (t : List ℕ). row_line f ++ t) (lines-cons g (i ∷ j ∷ [])
    ∙ ap (λ (t : List ℕ). row_line g ++ t) (lines-cons i (j ∷ [])
    ∙ ap (λ (t : List ℕ). row_line i ++ t) (lines-cons j []))))))))))

joined-by : (h a b c d e f g i j h' a' b' c' d' e' f' g' i' j' : List ℕ) → h ≡ h' → a ≡ a' → b ≡ b' → c ≡ c' → d ≡ d' → e ≡ e' → f ≡ f' → g ≡ g' → i ≡ i' → j ≡ j'
    → h ++ ((a ++ (b ++ (c ++ d))) ++ (e ++ (f ++ (g ++ (i ++ j))))) ≡ h' ++ (a' ++ (b' ++ (c' ++ (d' ++ (e' ++ (f' ++ (g' ++ (i' ++ (j' ++ [])))))))))
joined-by h a b c d e f g i j h' a' b' c' d' e' f' g' i' j' eh ea eb ec ed ee ef eg ei ej = rw (eh, ea, eb, ec, ed, ee, ef, eg, ei, ej) (joined h' a' b' c' d' e' f' g' i' j')

text-is : (seed : ℕ) → points_text seed ≡ lines (point_header ∷ point_rows seed)
unfolding points_text point_rows
text-is seed =
    joined-by (codes "name,x,y,z,plane,height\n") (fixed_line seed 0 (codes "F1") 1000 1000) (fixed_line seed 3 (codes "F2") 1000 5000) (fixed_line seed 6 (codes "F3") 5000 1000)
    (fixed_line seed 9 (codes "F4") 5000 5000) (new_line seed 12 (codes "N1") 2000 2000) (new_line seed 17 (codes "N2") 2000 4000) (new_line seed 22 (codes "N3") 3000 3000)
    (new_line seed 27 (codes "N4") 4000 2000) (new_line seed 32 (codes "N5") 4000 4000)
    (row_line point_header) (row_line (fixed_row seed 0 (codes "F1") 1000 1000)) (row_line (fixed_row seed 3 (codes "F2") 1000 5000)) (row_line (fixed_row seed 6 (codes "F3") 5000 1000))
    (row_line (fixed_row seed 9 (codes "F4") 5000 5000)) (row_line (new_row seed 12 (codes "N1") 2000 2000)) (row_line (new_row seed 17 (codes "N2") 2000 4000)) (row_line (new_row seed 22 (codes "N3") 3000 3000))
    (row_line (new_row seed 27 (codes "N4") 4000 2000)) (row_line (new_row seed 32 (codes "N5") 4000 4000))
    header-line (fixed-line seed 0 (codes "F1") 1000 1000) (fixed-line seed 3 (codes "F2") 1000 5000) (fixed-line seed 6 (codes "F3") 5000 1000) (fixed-line seed 9 (codes "F4") 5000 5000)
    (new-line seed 12 (codes "N1") 2000 2000) (new-line seed 17 (codes "N2") 2000 4000) (new-line seed 22 (codes "N3") 3000 3000) (new-line seed 27 (codes "N4") 4000 2000) (new-line seed 32 (codes "N5") 4000 4000)
    ∙ nine point_header (fixed_row seed 0 (codes "F1") 1000 1000) (fixed_row seed 3 (codes "F2") 1000 5000) (fixed_row seed 6 (codes "F3") 5000 1000) (fixed_row seed 9 (codes "F4") 5000 5000)
    (new_row seed 12 (codes "N1") 2000 2000) (new_row seed 17 (codes "N2") 2000 4000) (new_row seed 22 (codes "N3") 3000 3000) (new_row seed 27 (codes "N4") 4000 2000) (new_row seed 32 (codes "N5") 4000 4000)

-- ---- the records one by one

F1-row : (seed : ℕ) → IsPointRow (fixed_row seed 0 (codes "F1") 1000 1000) (fixed_point seed 0 (codes "F1") 1000 1000)
F1-row seed = fixed-row seed 0 (codes "F1") 1000 1000 (plain-tested (codes "F1") refl) (omega arith) (omega arith)

F2-row : (seed : ℕ) → IsPointRow (fixed_row seed 3 (codes "F2") 1000 5000) (fixed_point seed 3 (codes "F2") 1000 5000)
F2-row seed = fixed-row seed 3 (codes "F2") 1000 5000 (plain-tested (codes "F2") refl) (omega arith) (omega arith)

F3-row : (seed : ℕ) → IsPointRow (fixed_row seed 6 (codes "F3") 5000 1000) (fixed_point seed 6 (codes "F3") 5000 1000)
F3-row seed = fixed-row seed 6 (codes "F3") 5000 1000 (plain-tested (codes "F3") refl) (omega arith) (omega arith)

F4-row : (seed : ℕ) → IsPointRow (fixed_row seed 9 (codes "F4") 5000 5000) (fixed_point seed 9 (codes "F4") 5000 5000)
F4-row seed = fixed-row seed 9 (codes "F4") 5000 5000 (plain-tested (codes "F4") refl) (omega arith) (omega arith)

N1-row : (seed : ℕ) → IsPointRow (new_row seed 12 (codes "N1") 2000 2000) (new_point seed 12 (codes "N1") 2000 2000)
N1-row seed = new-row seed 12 (codes "N1") 2000 2000 (plain-tested (codes "N1") refl) (omega arith) (omega arith)

N2-row : (seed : ℕ) → IsPointRow (new_row seed 17 (codes "N2") 2000 4000) (new_point seed 17 (codes "N2") 2000 4000)
N2-row seed = new-row seed 17 (codes "N2") 2000 4000 (plain-tested (codes "N2") refl) (omega arith) (omega arith)

N3-row : (seed : ℕ) → IsPointRow (new_row seed 22 (codes "N3") 3000 3000) (new_point seed 22 (codes "N3") 3000 3000)
N3-row seed = new-row seed 22 (codes "N3") 3000 3000 (plain-tested (codes "N3") refl) (omega arith) (omega arith)

N4-row : (seed : ℕ) → IsPointRow (new_row seed 27 (codes "N4") 4000 2000) (new_point seed 27 (codes "N4") 4000 2000)
N4-row seed = new-row seed 27 (codes "N4") 4000 2000 (plain-tested (codes "N4") refl) (omega arith) (omega arith)

N5-row : (seed : ℕ) → IsPointRow (new_row seed 32 (codes "N5") 4000 4000) (new_point seed 32 (codes "N5") 4000 4000)
N5-row seed = new-row seed 32 (codes "N5") 4000 4000 (plain-tested (codes "N5") refl) (omega arith) (omega arith)

-- ---- the records together

-- rows stand for points one by one
ArePointRows : List (List (List ℕ)) → List PointRecord → Type 0
ArePointRows [] [] = Unit {0}
ArePointRows [] (point ∷ points) = ⊥
ArePointRows (row ∷ rows) [] = ⊥
ArePointRows (row ∷ rows) (point ∷ points) = IsPointRow row point × ArePointRows rows points

all-lines : (rows : List (List (List ℕ))) (points : List PointRecord) → ArePointRows rows points → AllByRecursion IsLine rows
unfolding ArePointRows
all-lines [] [] are = tt
all-lines [] (point ∷ points) are = absurd are
all-lines (row ∷ rows) [] are = absurd are
all-lines (row ∷ rows) (point ∷ points) (here, are) = (here.is_line, all-lines rows points are)

all-read : (rows : List (List (List ℕ))) (points : List PointRecord) → ArePointRows rows points → map point_of rows ≡ points
unfolding ArePointRows
all-read [] [] are = refl
all-read [] (point ∷ points) are = absurd are
all-read (row ∷ rows) [] are = absurd are
all-read (row ∷ rows) (point ∷ points) (here, are) = ap₂ (λ (p : PointRecord) (ps : List PointRecord). p ∷ ps) here.reads (all-read rows points are)

all-kept : (rows : List (List (List ℕ))) (points : List PointRecord) → ArePointRows rows points → AllByRecursion (IsKeptRow point_rules) rows
unfolding ArePointRows
all-kept [] [] are = tt
all-kept [] (point ∷ points) are = absurd are
all-kept (row ∷ rows) [] are = absurd are
all-kept (row ∷ rows) (point ∷ points) (here, are) = (here.kept, all-kept rows points are)

rows-are : (seed : ℕ) → ArePointRows (point_rows seed) (point_records seed)
unfolding ArePointRows point_rows point_records
rows-are seed = (F1-row seed, (F2-row seed, (F3-row seed, (F4-row seed, (N1-row seed, (N2-row seed, (N3-row seed, (N4-row seed, (N5-row seed, tt)))))))))

each-line : (seed : ℕ) → AllByRecursion IsLine (point_header ∷ point_rows seed)
each-line seed = (
  (plain-tested (codes "name") refl, (plain-tested (codes "x") refl, (plain-tested (codes "y") refl, (plain-tested (codes "z") refl, (plain-tested (codes "plane") refl, (plain-tested (codes "height") refl, tt)))))),
  all-lines (point_rows seed) (point_records seed) (rows-are seed),
)

fresh : (seed : ℕ) → are_fresh 1001 2 [] (point_rows seed) ≡ true
unfolding point_rows fixed_row new_row is_among
fresh seed = refl

begins : (seed : ℕ) → lines (point_header ∷ point_rows seed) ≡ 110 ∷ (codes "ame,x,y,z,plane,height\n" ++ lines (point_rows seed))
unfolding line_rest
begins seed = refl

pub points-read : (seed : ℕ) → points_of (points_text seed) ≡ point_records seed
unfolding points_of
points-read seed =
    ap (λ (t : List ℕ). map point_of (drop 1 (table_rows t))) (text-is seed)
    ∙ ap (λ (rows : List (List (List ℕ))). map point_of (drop 1 rows))
    (rows-read (point_header ∷ point_rows seed) 110 (codes "ame,x,y,z,plane,height\n" ++ lines (point_rows seed)) (each-line seed) (begins seed) (omega arith))
    ∙ all-read (point_rows seed) (point_records seed) (rows-are seed)

under : (seed : ℕ) → rows_under point_header (lines (point_header ∷ point_rows seed)) ≡ Some (point_rows seed)
under seed = under-read point_header (point_rows seed) 110 (codes "ame,x,y,z,plane,height\n" ++ lines (point_rows seed)) (each-line seed) (begins seed) (omega arith) refl

pub points-kept : (seed : ℕ) → points_fault (points_text seed) ≡ None
unfolding points_fault
points-kept seed =
    ap (first_fault (named_table point_rules)) (text-is seed)
    ∙ table-kept point_rules (lines (point_header ∷ point_rows seed)) (point_rows seed) (under seed)
    (fresh-kept point_rules 2 [] (point_rows seed) (fresh seed) (all-kept (point_rows seed) (point_records seed) (rows-are seed)))
