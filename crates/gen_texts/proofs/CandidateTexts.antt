-- The candidates table of a seed is accepted against the points of the seed, and stands for its candidates.
use Rattle.std.proofs.Common.{◌≡◌, ◌∙◌, ◌<◌, ◌≤◌, ℕ, true, List, [], ◌∷◌, ◌++◌, Some, None, map, refl, sym, ap, ap₂, arith, append_assoc, drop}
use Rattle.std.specs.Prelude.{codes}
use Rattle.std.specs.Fmt.{digits}
use Rattle.std.specs.List.{AllByRecursion}
use Rattle.std.proofs.lemmas.List.{append-nil}
use Rattle.table_rows.specs.Faults.{first_fault}
use Rattle.table_rows.specs.Header.{rows_under}
use Rattle.table_rows.specs.Rows.{table_rows}
use Rattle.table_columns.specs.Columns.{named_table}
use Rattle.table_columns.specs.Names.{is_among}
use Rattle.point_tables.specs.declared.record.PointRecord.{PointRecord}
use Rattle.candidate_tables.specs.declared.record.CandidateRecord.{CandidateRecord}
use Rattle.candidate_tables.specs.CandidateTable.{candidate_header, candidate_record_of, candidate_rules, candidates_fault, candidates_of}
use Rattle.gen_net.specs.Draws.{drawn}
use Rattle.gen_net.specs.Fields.{label}
use Rattle.gen_net.specs.Candidates.{angle_lines, candidates_text, direction_lines, distance_lines, drawn_distance, first_fixed, fixed_name, level_lines, second_fixed, vector_lines, vector_pair}
use Rattle.gen_records.specs.Records.{angle_records, candidate_records, direction_records, distance_records, level_records, point_records, vector_record, vector_records}
use Rattle.gen_records.proofs.CountFacts.{drawn-below, rest-below}
use Rattle.gen_texts.proofs.CandidateRows.{IsCandidateRow, IsNamed, angle-line, angle-row, angle_row, direction-line, direction-row, direction_row, distance-line, distance-row, distance_row, level-line, level-row, level_row, vector-line, vector-row, vector_row}
use Rattle.gen_texts.proofs.KeptRules.{IsKeptRow, are_fresh, fresh-kept, table-kept}
use Rattle.gen_texts.proofs.NamedPoints.{F1-named, F2-named, F3-named, F4-named, N1-N3-long, N1-label, N1-long, N1-named, N2-label, N2-long, N2-named, N3-label, N3-long, N3-named, N4-label, N4-long, N4-named, N5-label, N5-long, N5-named, fixed-named, fixed-new, new-fixed}
use Rattle.gen_texts.proofs.PlainLines.{IsLine, line_rest, lines, rows-read, under-read}
use Rattle.gen_texts.proofs.PlainTexts.{plain-tested}
use Rattle.gen_texts.proofs.PointRows.{row_line}
use Rattle.gen_texts.proofs.PointTexts.{lines-cons}

-- ---- the records of the table as texts

unfoldable pub vector_rows : ℕ → List (List (List ℕ))
vector_rows seed =
    vector_row seed 39 1 (fixed_name (first_fixed seed 37)) (label (codes "N") 1)
    ∷ vector_row seed 40 2 (fixed_name (second_fixed seed 37)) (label (codes "N") 1)
    ∷ vector_row seed 43 3 (fixed_name (first_fixed seed 41)) (label (codes "N") 2)
    ∷ vector_row seed 44 4 (fixed_name (second_fixed seed 41)) (label (codes "N") 2)
    ∷ vector_row seed 47 5 (fixed_name (first_fixed seed 45)) (label (codes "N") 3)
    ∷ vector_row seed 48 6 (fixed_name (second_fixed seed 45)) (label (codes "N") 3)
    ∷ vector_row seed 51 7 (fixed_name (first_fixed seed 49)) (label (codes "N") 4)
    ∷ vector_row seed 52 8 (fixed_name (second_fixed seed 49)) (label (codes "N") 4)
    ∷ vector_row seed 55 9 (fixed_name (first_fixed seed 53)) (label (codes "N") 5)
    ∷ vector_row seed 56 10 (fixed_name (second_fixed seed 53)) (label (codes "N") 5)
    ∷ []

unfoldable pub distance_rows : ℕ → List (List (List ℕ))
distance_rows seed =
    distance_row seed 58 1 (label (codes "N") 1) (fixed_name (drawn seed 57 4))
    ∷ distance_row seed 60 2 (label (codes "N") 2) (fixed_name (drawn seed 59 4))
    ∷ distance_row seed 62 3 (label (codes "N") 3) (fixed_name (drawn seed 61 4))
    ∷ distance_row seed 64 4 (label (codes "N") 4) (fixed_name (drawn seed 63 4))
    ∷ distance_row seed 66 5 (label (codes "N") 5) (fixed_name (drawn seed 65 4))
    ∷ distance_row seed 67 6 (codes "N1") (codes "N3")
    ∷ []

unfoldable pub direction_rows : ℕ → List (List (List ℕ))
direction_rows seed =
    direction_row seed 68 1 (codes "N2") (codes "F1")
    ∷ direction_row seed 69 2 (codes "N2") (codes "F4")
    ∷ direction_row seed 70 3 (codes "N4") (codes "F2")
    ∷ direction_row seed 71 4 (codes "N4") (codes "F3")
    ∷ []

unfoldable pub angle_rows : ℕ → List (List (List ℕ))
angle_rows seed =
    angle_row seed 72 1 (codes "N1") (codes "F2") (codes "F3")
    ∷ angle_row seed 73 2 (codes "N3") (codes "F1") (codes "F4")
    ∷ angle_row seed 74 3 (codes "N4") (codes "F1") (codes "F4")
    ∷ angle_row seed 75 4 (codes "N5") (codes "F2") (codes "F3")
    ∷ []

unfoldable pub level_rows : ℕ → List (List (List ℕ))
level_rows seed =
    level_row seed 76 1 (codes "F1") (codes "N1")
    ∷ level_row seed 77 2 (codes "N1") (codes "N2")
    ∷ level_row seed 78 3 (codes "N2") (codes "N3")
    ∷ level_row seed 79 4 (codes "F4") (codes "N5")
    ∷ []

unfoldable pub candidate_rows : ℕ → List (List (List ℕ))
candidate_rows seed = vector_rows seed ++ (distance_rows seed ++ (direction_rows seed ++ (angle_rows seed ++ level_rows seed)))

-- ---- the text

lines-append : (xs ys : List (List (List ℕ))) → lines (xs ++ ys) ≡ lines xs ++ lines ys
lines-append [] ys = refl
lines-append (row ∷ xs) ys =
    lines-cons row (xs ++ ys) ∙ ap (λ (t : List ℕ). row_line row ++ t) (lines-append xs ys) ∙ sym (append_assoc (row_line row) (lines xs) (lines ys))
    ∙ ap (λ (t : List ℕ). t ++ lines ys) (sym (lines-cons row xs))

-- one line more, and a last line
more : (text rest : List ℕ) (row : List (List ℕ)) (rows : List (List (List ℕ))) → text ≡ row_line row → rest ≡ lines rows → text ++ rest ≡ lines (row ∷ rows)
more text rest row rows e f = ap₂ (λ (s t : List ℕ). s ++ t) e f ∙ sym (lines-cons row rows)

last : (text : List ℕ) (row : List (List ℕ)) → text ≡ row_line row → text ≡ lines (row ∷ [])
last text row e = e ∙ sym (append-nil (row_line row)) ∙ sym (lines-cons row [])

-- some lines, and then others
then : (text rest : List ℕ) (rows others : List (List (List ℕ))) → text ≡ lines rows → rest ≡ lines others → text ++ rest ≡ lines (rows ++ others)
then text rest rows others e f = ap₂ (λ (s t : List ℕ). s ++ t) e f ∙ sym (lines-append rows others)

pair-1 : (seed : ℕ) → vector_pair seed 37 1 ≡ lines (vector_row seed 39 1 (fixed_name (first_fixed seed 37)) (label (codes "N") 1) ∷ vector_row seed 40 2 (fixed_name (second_fixed seed 37)) (label (codes "N") 1) ∷ [])
unfolding vector_pair
pair-1 seed =
    more _ _ (vector_row seed 39 1 (fixed_name (first_fixed seed 37)) (label (codes "N") 1)) (vector_row seed 40 2 (fixed_name (second_fixed seed 37)) (label (codes "N") 1) ∷ []) (vector-line seed 39 1 (fixed_name (first_fixed seed 37)) (label (codes "N") 1))
    (last _ (vector_row seed 40 2 (fixed_name (second_fixed seed 37)) (label (codes "N") 1)) (vector-line seed 40 2 (fixed_name (second_fixed seed 37)) (label (codes "N") 1)))

pair-2 : (seed : ℕ) → vector_pair seed 41 2 ≡ lines (vector_row seed 43 3 (fixed_name (first_fixed seed 41)) (label (codes "N") 2) ∷ vector_row seed 44 4 (fixed_name (second_fixed seed 41)) (label (codes "N") 2) ∷ [])
unfolding vector_pair
pair-2 seed =
    more _ _ (vector_row seed 43 3 (fixed_name (first_fixed seed 41)) (label (codes "N") 2)) (vector_row seed 44 4 (fixed_name (second_fixed seed 41)) (label (codes "N") 2) ∷ []) (vector-line seed 43 3 (fixed_name (first_fixed seed 41)) (label (codes "N") 2))
    (last _ (vector_row seed 44 4 (fixed_name (second_fixed seed 41)) (label (codes "N") 2)) (vector-line seed 44 4 (fixed_name (second_fixed seed 41)) (label (codes "N") 2)))

pair-3 : (seed : ℕ) → vector_pair seed 45 3 ≡ lines (vector_row seed 47 5 (fixed_name (first_fixed seed 45)) (label (codes "N") 3) ∷ vector_row seed 48 6 (fixed_name (second_fixed seed 45)) (label (codes "N") 3) ∷ [])
unfolding vector_pair
pair-3 seed =
    more _ _ (vector_row seed 47 5 (fixed_name (first_fixed seed 45)) (label (codes "N") 3)) (vector_row seed 48 6 (fixed_name (second_fixed seed 45)) (label (codes "N") 3) ∷ []) (vector-line seed 47 5 (fixed_name (first_fixed seed 45)) (label (codes "N") 3))
    (last _ (vector_row seed 48 6 (fixed_name (second_fixed seed 45)) (label (codes "N") 3)) (vector-line seed 48 6 (fixed_name (second_fixed seed 45)) (label (codes "N") 3)))

pair-4 : (seed : ℕ) → vector_pair seed 49 4 ≡ lines (vector_row seed 51 7 (fixed_name (first_fixed seed 49)) (label (codes "N") 4) ∷ vector_row seed 52 8 (fixed_name (second_fixed seed 49)) (label (codes "N") 4) ∷ [])
unfolding vector_pair
pair-4 seed =
    more _ _ (vector_row seed 51 7 (fixed_name (first_fixed seed 49)) (label (codes "N") 4)) (vector_row seed 52 8 (fixed_name (second_fixed seed 49)) (label (codes "N") 4) ∷ []) (vector-line seed 51 7 (fixed_name (first_fixed seed 49)) (label (codes "N") 4))
    (last _ (vector_row seed 52 8 (fixed_name (second_fixed seed 49)) (label (codes "N") 4)) (vector-line seed 52 8 (fixed_name (second_fixed seed 49)) (label (codes "N") 4)))

pair-5 : (seed : ℕ) → vector_pair seed 53 5 ≡ lines (vector_row seed 55 9 (fixed_name (first_fixed seed 53)) (label (codes "N") 5) ∷ vector_row seed 56 10 (fixed_name (second_fixed seed 53)) (label (codes "N") 5) ∷ [])
unfolding vector_pair
pair-5 seed =
    more _ _ (vector_row seed 55 9 (fixed_name (first_fixed seed 53)) (label (codes "N") 5)) (vector_row seed 56 10 (fixed_name (second_fixed seed 53)) (label (codes "N") 5) ∷ []) (vector-line seed 55 9 (fixed_name (first_fixed seed 53)) (label (codes "N") 5))
    (last _ (vector_row seed 56 10 (fixed_name (second_fixed seed 53)) (label (codes "N") 5)) (vector-line seed 56 10 (fixed_name (second_fixed seed 53)) (label (codes "N") 5)))

vector-text : (seed : ℕ) → vector_lines seed ≡ lines (vector_rows seed)
unfolding vector_rows
vector-text seed =
    then _ _ (vector_row seed 39 1 (fixed_name (first_fixed seed 37)) (label (codes "N") 1) ∷ vector_row seed 40 2 (fixed_name (second_fixed seed 37)) (label (codes "N") 1) ∷ []) ((vector_row seed 43 3 (fixed_name (first_fixed seed 41)) (label (codes "N") 2) ∷ vector_row seed 44 4 (fixed_name (second_fixed seed 41)) (label (codes "N") 2) ∷ []) ++ ((vector_row seed 47 5 (fixed_name (first_fixed seed 45)) (label (codes "N") 3) ∷ vector_row seed 48 6 (fixed_name (second_fixed seed 45)) (label (codes "N") 3) ∷ []) ++ ((vector_row seed 51 7 (fixed_name (first_fixed seed 49)) (label (codes "N") 4) ∷ vector_row seed 52 8 (fixed_name (second_fixed seed 49)) (label (codes "N") 4) ∷ []) ++ ((vector_row seed 55 9 (fixed_name (first_fixed seed 53)) (label (codes "N") 5) ∷ vector_row seed 56 10 (fixed_name (second_fixed seed 53)) (label (codes "N") 5) ∷ []))))) (pair-1 seed)
    (then _ _ (vector_row seed 43 3 (fixed_name (first_fixed seed 41)) (label (codes "N") 2) ∷ vector_row seed 44 4 (fixed_name (second_fixed seed 41)) (label (codes "N") 2) ∷ []) ((vector_row seed 47 5 (fixed_name (first_fixed seed 45)) (label (codes "N") 3) ∷ vector_row seed 48 6 (fixed_name (second_fixed seed 45)) (label (codes "N") 3) ∷ []) ++ ((vector_row seed 51 7 (fixed_name (first_fixed seed 49)) (label (codes "N") 4) ∷ vector_row seed 52 8 (fixed_name (second_fixed seed 49)) (label (codes "N") 4) ∷ []) ++ ((vector_row seed 55 9 (fixed_name (first_fixed seed 53)) (label (codes "N") 5) ∷ vector_row seed 56 10 (fixed_name (second_fixed seed 53)) (label (codes "N") 5) ∷ [])))) (pair-2 seed)
    (then _ _ (vector_row seed 47 5 (fixed_name (first_fixed seed 45)) (label (codes "N") 3) ∷ vector_row seed 48 6 (fixed_name (second_fixed seed 45)) (label (codes "N") 3) ∷ []) ((vector_row seed 51 7 (fixed_name (first_fixed seed 49)) (label (codes "N") 4) ∷ vector_row seed 52 8 (fixed_name (second_fixed seed 49)) (label (codes "N") 4) ∷ []) ++ ((vector_row seed 55 9 (fixed_name (first_fixed seed 53)) (label (codes "N") 5) ∷ vector_row seed 56 10 (fixed_name (second_fixed seed 53)) (label (codes "N") 5) ∷ []))) (pair-3 seed)
    (then _ _ (vector_row seed 51 7 (fixed_name (first_fixed seed 49)) (label (codes "N") 4) ∷ vector_row seed 52 8 (fixed_name (second_fixed seed 49)) (label (codes "N") 4) ∷ []) ((vector_row seed 55 9 (fixed_name (first_fixed seed 53)) (label (codes "N") 5) ∷ vector_row seed 56 10 (fixed_name (second_fixed seed 53)) (label (codes "N") 5) ∷ [])) (pair-4 seed)
    (pair-5 seed))))

distance-text : (seed : ℕ) → distance_lines seed ≡ lines (distance_rows seed)
unfolding distance_rows drawn_distance
distance-text seed =
    more _ _ (distance_row seed 58 1 (label (codes "N") 1) (fixed_name (drawn seed 57 4))) (distance_row seed 60 2 (label (codes "N") 2) (fixed_name (drawn seed 59 4)) ∷ distance_row seed 62 3 (label (codes "N") 3) (fixed_name (drawn seed 61 4)) ∷ distance_row seed 64 4 (label (codes "N") 4) (fixed_name (drawn seed 63 4)) ∷ distance_row seed 66 5 (label (codes "N") 5) (fixed_name (drawn seed 65 4)) ∷ distance_row seed 67 6 (codes "N1") (codes "N3") ∷ []) (distance-line seed 58 1 (label (codes "N") 1) (fixed_name (drawn seed 57 4)))
    (more _ _ (distance_row seed 60 2 (label (codes "N") 2) (fixed_name (drawn seed 59 4))) (distance_row seed 62 3 (label (codes "N") 3) (fixed_name (drawn seed 61 4)) ∷ distance_row seed 64 4 (label (codes "N") 4) (fixed_name (drawn seed 63 4)) ∷ distance_row seed 66 5 (label (codes "N") 5) (fixed_name (drawn seed 65 4)) ∷ distance_row seed 67 6 (codes "N1") (codes "N3") ∷ []) (distance-line seed 60 2 (label (codes "N") 2) (fixed_name (drawn seed 59 4)))
    (more _ _ (distance_row seed 62 3 (label (codes "N") 3) (fixed_name (drawn seed 61 4))) (distance_row seed 64 4 (label (codes "N") 4) (fixed_name (drawn seed 63 4)) ∷ distance_row seed 66 5 (label (codes "N") 5) (fixed_name (drawn seed 65 4)) ∷ distance_row seed 67 6 (codes "N1") (codes "N3") ∷ []) (distance-line seed 62 3 (label (codes "N") 3) (fixed_name (drawn seed 61 4)))
    (more _ _ (distance_row seed 64 4 (label (codes "N") 4) (fixed_name (drawn seed 63 4))) (distance_row seed 66 5 (label (codes "N") 5) (fixed_name (drawn seed 65 4)) ∷ distance_row seed 67 6 (codes "N1") (codes "N3") ∷ []) (distance-line seed 64 4 (label (codes "N") 4) (fixed_name (drawn seed 63 4)))
    (more _ _ (distance_row seed 66 5 (label (codes "N") 5) (fixed_name (drawn seed 65 4))) (distance_row seed 67 6 (codes "N1") (codes "N3") ∷ []) (distance-line seed 66 5 (label (codes "N") 5) (fixed_name (drawn seed 65 4)))
    (last _ (distance_row seed 67 6 (codes "N1") (codes "N3")) (distance-line seed 67 6 (codes "N1") (codes "N3")))))))

direction-text : (seed : ℕ) → direction_lines seed ≡ lines (direction_rows seed)
unfolding direction_rows
direction-text seed =
    more _ _ (direction_row seed 68 1 (codes "N2") (codes "F1")) (direction_row seed 69 2 (codes "N2") (codes "F4") ∷ direction_row seed 70 3 (codes "N4") (codes "F2") ∷ direction_row seed 71 4 (codes "N4") (codes "F3") ∷ []) (direction-line seed 68 1 (codes "N2") (codes "F1"))
    (more _ _ (direction_row seed 69 2 (codes "N2") (codes "F4")) (direction_row seed 70 3 (codes "N4") (codes "F2") ∷ direction_row seed 71 4 (codes "N4") (codes "F3") ∷ []) (direction-line seed 69 2 (codes "N2") (codes "F4"))
    (more _ _ (direction_row seed 70 3 (codes "N4") (codes "F2")) (direction_row seed 71 4 (codes "N4") (codes "F3") ∷ []) (direction-line seed 70 3 (codes "N4") (codes "F2"))
    (last _ (direction_row seed 71 4 (codes "N4") (codes "F3")) (direction-line seed 71 4 (codes "N4") (codes "F3")))))

angle-text : (seed : ℕ) → angle_lines seed ≡ lines (angle_rows seed)
unfolding angle_rows
angle-text seed =
    more _ _ (angle_row seed 72 1 (codes "N1") (codes "F2") (codes "F3")) (angle_row seed 73 2 (codes "N3") (codes "F1") (codes "F4") ∷ angle_row seed 74 3 (codes "N4") (codes "F1") (codes "F4") ∷ angle_row seed 75 4 (codes "N5") (codes "F2") (codes "F3") ∷ []) (angle-line seed 72 1 (codes "N1") (codes "F2") (codes "F3"))
    (more _ _ (angle_row seed 73 2 (codes "N3") (codes "F1") (codes "F4")) (angle_row seed 74 3 (codes "N4") (codes "F1") (codes "F4") ∷ angle_row seed 75 4 (codes "N5") (codes "F2") (codes "F3") ∷ []) (angle-line seed 73 2 (codes "N3") (codes "F1") (codes "F4"))
    (more _ _ (angle_row seed 74 3 (codes "N4") (codes "F1") (codes "F4")) (angle_row seed 75 4 (codes "N5") (codes "F2") (codes "F3") ∷ []) (angle-line seed 74 3 (codes "N4") (codes "F1") (codes "F4"))
    (last _ (angle_row seed 75 4 (codes "N5") (codes "F2") (codes "F3")) (angle-line seed 75 4 (codes "N5") (codes "F2") (codes "F3")))))

level-text : (seed : ℕ) → level_lines seed ≡ lines (level_rows seed)
unfolding level_rows
level-text seed =
    more _ _ (level_row seed 76 1 (codes "F1") (codes "N1")) (level_row seed 77 2 (codes "N1") (codes "N2") ∷ level_row seed 78 3 (codes "N2") (codes "N3") ∷ level_row seed 79 4 (codes "F4") (codes "N5") ∷ []) (level-line seed 76 1 (codes "F1") (codes "N1"))
    (more _ _ (level_row seed 77 2 (codes "N1") (codes "N2")) (level_row seed 78 3 (codes "N2") (codes "N3") ∷ level_row seed 79 4 (codes "F4") (codes "N5") ∷ []) (level-line seed 77 2 (codes "N1") (codes "N2"))
    (more _ _ (level_row seed 78 3 (codes "N2") (codes "N3")) (level_row seed 79 4 (codes "F4") (codes "N5") ∷ []) (level-line seed 78 3 (codes "N2") (codes "N3"))
    (last _ (level_row seed 79 4 (codes "F4") (codes "N5")) (level-line seed 79 4 (codes "F4") (codes "N5")))))

header-line : codes "name,kind,from,to,to2,sd,sdh,price\n" ≡ row_line candidate_header
unfolding row_line line_rest
header-line = refl

text-is : (seed : ℕ) → candidates_text seed ≡ lines (candidate_header ∷ candidate_rows seed)
unfolding candidates_text candidate_rows
text-is seed =
    more _ _ candidate_header (vector_rows seed ++ (distance_rows seed ++ (direction_rows seed ++ (angle_rows seed ++ level_rows seed)))) header-line
    (then _ _ (vector_rows seed) (distance_rows seed ++ (direction_rows seed ++ (angle_rows seed ++ level_rows seed))) (vector-text seed)
    (then _ _ (distance_rows seed) (direction_rows seed ++ (angle_rows seed ++ level_rows seed)) (distance-text seed)
    (then _ _ (direction_rows seed) (angle_rows seed ++ level_rows seed) (direction-text seed)
    (then _ _ (angle_rows seed) (level_rows seed) (angle-text seed) (level-text seed)))))

-- ---- the records one by one

-- rows stand for candidates one by one
AreCandidateRows : List PointRecord → List (List (List ℕ)) → List CandidateRecord → Type 0
AreCandidateRows points [] [] = Unit {0}
AreCandidateRows points [] (candidate ∷ candidates) = ⊥
AreCandidateRows points (row ∷ rows) [] = ⊥
AreCandidateRows points (row ∷ rows) (candidate ∷ candidates) = IsCandidateRow points row candidate × AreCandidateRows points rows candidates

all-lines : (points : List PointRecord) (rows : List (List (List ℕ))) (candidates : List CandidateRecord) → AreCandidateRows points rows candidates → AllByRecursion IsLine rows
unfolding AreCandidateRows
all-lines points [] [] are = tt
all-lines points [] (candidate ∷ candidates) are = absurd are
all-lines points (row ∷ rows) [] are = absurd are
all-lines points (row ∷ rows) (candidate ∷ candidates) (here, are) = (here.is_line, all-lines points rows candidates are)

all-read : (points : List PointRecord) (rows : List (List (List ℕ))) (candidates : List CandidateRecord) → AreCandidateRows points rows candidates → map (candidate_record_of points) rows ≡ candidates
unfolding AreCandidateRows
all-read points [] [] are = refl
all-read points [] (candidate ∷ candidates) are = absurd are
all-read points (row ∷ rows) [] are = absurd are
all-read points (row ∷ rows) (candidate ∷ candidates) (here, are) = ap₂ (λ (c : CandidateRecord) (cs : List CandidateRecord). c ∷ cs) here.reads (all-read points rows candidates are)

all-kept : (points : List PointRecord) (rows : List (List (List ℕ))) (candidates : List CandidateRecord) → AreCandidateRows points rows candidates → AllByRecursion (IsKeptRow (candidate_rules points)) rows
unfolding AreCandidateRows
all-kept points [] [] are = tt
all-kept points [] (candidate ∷ candidates) are = absurd are
all-kept points (row ∷ rows) [] are = absurd are
all-kept points (row ∷ rows) (candidate ∷ candidates) (here, are) = (here.kept, all-kept points rows candidates are)

all-append : (points : List PointRecord) (rows others : List (List (List ℕ))) (candidates more : List CandidateRecord) → AreCandidateRows points rows candidates → AreCandidateRows points others more
    → AreCandidateRows points (rows ++ others) (candidates ++ more)
unfolding AreCandidateRows
all-append points [] others [] more are then = then
all-append points [] others (candidate ∷ candidates) more are then = absurd are
all-append points (row ∷ rows) others [] more are then = absurd are
all-append points (row ∷ rows) others (candidate ∷ candidates) more (here, are) then = (here, all-append points rows others candidates more are then)

first-low : (seed place : ℕ) → first_fixed seed place < 4
first-low seed place = drawn-below seed place 4 (omega arith)

second-low : (seed place : ℕ) → second_fixed seed place < 4
second-low seed place = rest-below _ 4 (omega arith)

end-low : (seed place : ℕ) → drawn seed place 4 < 4
end-low seed place = drawn-below seed place 4 (omega arith)

-- a vector from a drawn fixed point, and a distance to one
vector-from : (seed price number fixed place : ℕ) (text : List ℕ) → number ≤ 1000 → fixed < 4 → 4 ≤ place → IsNamed (point_records seed) text place
    → IsCandidateRow (point_records seed) (vector_row seed price number (fixed_name fixed) text) (vector_record seed price number fixed place)
vector-from seed price number fixed place text small low high named =
    vector-row (point_records seed) seed price number (fixed_name fixed) text fixed place small (fixed-new fixed place low high) (fixed-named seed fixed low) named

vectors-are : (seed : ℕ) → AreCandidateRows (point_records seed) (vector_rows seed) (vector_records seed)
unfolding AreCandidateRows vector_rows vector_records
vectors-are seed = (
  vector-from seed 39 1 (first_fixed seed 37) 4 (label (codes "N") 1) (omega arith) (first-low seed 37) (omega arith) (N1-label seed),
  (
    vector-from seed 40 2 (second_fixed seed 37) 4 (label (codes "N") 1) (omega arith) (second-low seed 37) (omega arith) (N1-label seed),
    (
      vector-from seed 43 3 (first_fixed seed 41) 5 (label (codes "N") 2) (omega arith) (first-low seed 41) (omega arith) (N2-label seed),
      (
        vector-from seed 44 4 (second_fixed seed 41) 5 (label (codes "N") 2) (omega arith) (second-low seed 41) (omega arith) (N2-label seed),
        (
          vector-from seed 47 5 (first_fixed seed 45) 6 (label (codes "N") 3) (omega arith) (first-low seed 45) (omega arith) (N3-label seed),
          (
            vector-from seed 48 6 (second_fixed seed 45) 6 (label (codes "N") 3) (omega arith) (second-low seed 45) (omega arith) (N3-label seed),
            (
              vector-from seed 51 7 (first_fixed seed 49) 7 (label (codes "N") 4) (omega arith) (first-low seed 49) (omega arith) (N4-label seed),
              (
                vector-from seed 52 8 (second_fixed seed 49) 7 (label (codes "N") 4) (omega arith) (second-low seed 49) (omega arith) (N4-label seed),
                (
                  vector-from seed 55 9 (first_fixed seed 53) 8 (label (codes "N") 5) (omega arith) (first-low seed 53) (omega arith) (N5-label seed),
                  (vector-from seed 56 10 (second_fixed seed 53) 8 (label (codes "N") 5) (omega arith) (second-low seed 53) (omega arith) (N5-label seed), tt),
                ),
              ),
            ),
          ),
        ),
      ),
    ),
  ),
)

distances-are : (seed : ℕ) → AreCandidateRows (point_records seed) (distance_rows seed) (distance_records seed)
unfolding AreCandidateRows distance_rows distance_records
distances-are seed = (
  distance-row (point_records seed) seed 58 1 (label (codes "N") 1) (fixed_name (drawn seed 57 4)) 4 (drawn seed 57 4) (omega arith) (new-fixed (drawn seed 57 4) 4 (end-low seed 57) (omega arith)) (N1-label seed) (fixed-named seed (drawn seed 57 4) (end-low seed 57)) (N1-long seed (drawn seed 57 4) (end-low seed 57)),
  (
    distance-row (point_records seed) seed 60 2 (label (codes "N") 2) (fixed_name (drawn seed 59 4)) 5 (drawn seed 59 4) (omega arith) (new-fixed (drawn seed 59 4) 5 (end-low seed 59) (omega arith)) (N2-label seed) (fixed-named seed (drawn seed 59 4) (end-low seed 59)) (N2-long seed (drawn seed 59 4) (end-low seed 59)),
    (
      distance-row (point_records seed) seed 62 3 (label (codes "N") 3) (fixed_name (drawn seed 61 4)) 6 (drawn seed 61 4) (omega arith) (new-fixed (drawn seed 61 4) 6 (end-low seed 61) (omega arith)) (N3-label seed) (fixed-named seed (drawn seed 61 4) (end-low seed 61)) (N3-long seed (drawn seed 61 4) (end-low seed 61)),
      (
        distance-row (point_records seed) seed 64 4 (label (codes "N") 4) (fixed_name (drawn seed 63 4)) 7 (drawn seed 63 4) (omega arith) (new-fixed (drawn seed 63 4) 7 (end-low seed 63) (omega arith)) (N4-label seed) (fixed-named seed (drawn seed 63 4) (end-low seed 63)) (N4-long seed (drawn seed 63 4) (end-low seed 63)),
        (
          distance-row (point_records seed) seed 66 5 (label (codes "N") 5) (fixed_name (drawn seed 65 4)) 8 (drawn seed 65 4) (omega arith) (new-fixed (drawn seed 65 4) 8 (end-low seed 65) (omega arith)) (N5-label seed) (fixed-named seed (drawn seed 65 4) (end-low seed 65)) (N5-long seed (drawn seed 65 4) (end-low seed 65)),
          (distance-row (point_records seed) seed 67 6 (codes "N1") (codes "N3") 4 6 (omega arith) refl (N1-named seed) (N3-named seed) (N1-N3-long seed), tt),
        ),
      ),
    ),
  ),
)

directions-are : (seed : ℕ) → AreCandidateRows (point_records seed) (direction_rows seed) (direction_records seed)
unfolding AreCandidateRows direction_rows direction_records
directions-are seed = (
  direction-row (point_records seed) seed 68 1 (codes "N2") (codes "F1") 5 0 (omega arith) refl (N2-named seed) (F1-named seed) (N2-long seed 0 (omega arith)),
  (
    direction-row (point_records seed) seed 69 2 (codes "N2") (codes "F4") 5 3 (omega arith) refl (N2-named seed) (F4-named seed) (N2-long seed 3 (omega arith)),
    (
      direction-row (point_records seed) seed 70 3 (codes "N4") (codes "F2") 7 1 (omega arith) refl (N4-named seed) (F2-named seed) (N4-long seed 1 (omega arith)),
      (direction-row (point_records seed) seed 71 4 (codes "N4") (codes "F3") 7 2 (omega arith) refl (N4-named seed) (F3-named seed) (N4-long seed 2 (omega arith)), tt),
    ),
  ),
)

angles-are : (seed : ℕ) → AreCandidateRows (point_records seed) (angle_rows seed) (angle_records seed)
unfolding AreCandidateRows angle_rows angle_records
angles-are seed = (
  angle-row (point_records seed) seed 72 1 (codes "N1") (codes "F2") 4 1 (omega arith) refl (N1-named seed) (F2-named seed) (codes "F3") 2 refl refl (F3-named seed) (N1-long seed 1 (omega arith)) (N1-long seed 2 (omega arith)),
  (
    angle-row (point_records seed) seed 73 2 (codes "N3") (codes "F1") 6 0 (omega arith) refl (N3-named seed) (F1-named seed) (codes "F4") 3 refl refl (F4-named seed) (N3-long seed 0 (omega arith)) (N3-long seed 3 (omega arith)),
    (
      angle-row (point_records seed) seed 74 3 (codes "N4") (codes "F1") 7 0 (omega arith) refl (N4-named seed) (F1-named seed) (codes "F4") 3 refl refl (F4-named seed) (N4-long seed 0 (omega arith)) (N4-long seed 3 (omega arith)),
      (angle-row (point_records seed) seed 75 4 (codes "N5") (codes "F2") 8 1 (omega arith) refl (N5-named seed) (F2-named seed) (codes "F3") 2 refl refl (F3-named seed) (N5-long seed 1 (omega arith)) (N5-long seed 2 (omega arith)), tt),
    ),
  ),
)

levels-are : (seed : ℕ) → AreCandidateRows (point_records seed) (level_rows seed) (level_records seed)
unfolding AreCandidateRows level_rows level_records
levels-are seed = (
  level-row (point_records seed) seed 76 1 (codes "F1") (codes "N1") 0 4 (omega arith) refl (F1-named seed) (N1-named seed),
  (
    level-row (point_records seed) seed 77 2 (codes "N1") (codes "N2") 4 5 (omega arith) refl (N1-named seed) (N2-named seed),
    (
      level-row (point_records seed) seed 78 3 (codes "N2") (codes "N3") 5 6 (omega arith) refl (N2-named seed) (N3-named seed),
      (level-row (point_records seed) seed 79 4 (codes "F4") (codes "N5") 3 8 (omega arith) refl (F4-named seed) (N5-named seed), tt),
    ),
  ),
)

rows-are : (seed : ℕ) → AreCandidateRows (point_records seed) (candidate_rows seed) (candidate_records seed)
unfolding candidate_rows candidate_records
rows-are seed =
    all-append (point_records seed) (vector_rows seed) (distance_rows seed ++ (direction_rows seed ++ (angle_rows seed ++ level_rows seed)))
    (vector_records seed) (distance_records seed ++ (direction_records seed ++ (angle_records seed ++ level_records seed))) (vectors-are seed)
    (all-append (point_records seed) (distance_rows seed) (direction_rows seed ++ (angle_rows seed ++ level_rows seed))
    (distance_records seed) (direction_records seed ++ (angle_records seed ++ level_records seed)) (distances-are seed)
    (all-append (point_records seed) (direction_rows seed) (angle_rows seed ++ level_rows seed) (direction_records seed) (angle_records seed ++ level_records seed) (directions-are seed)
    (all-append (point_records seed) (angle_rows seed) (level_rows seed) (angle_records seed) (level_records seed) (angles-are seed) (levels-are seed))))

-- ---- the records together

each-line : (seed : ℕ) → AllByRecursion IsLine (candidate_header ∷ candidate_rows seed)
each-line seed = (
  (
    plain-tested (codes "name") refl,
    (
      plain-tested (codes "kind") refl,
      (
        plain-tested (codes "from") refl,
        (
          plain-tested (codes "to") refl,
          (plain-tested (codes "to2") refl, (plain-tested (codes "sd") refl, (plain-tested (codes "sdh") refl, (plain-tested (codes "price") refl, tt)))),
        ),
      ),
    ),
  ),
  all-lines (point_records seed) (candidate_rows seed) (candidate_records seed) (rows-are seed),
)

fresh : (seed : ℕ) → are_fresh 257 2 [] (candidate_rows seed) ≡ true
unfolding candidate_rows vector_rows distance_rows direction_rows angle_rows level_rows vector_row distance_row direction_row angle_row level_row is_among digits
fresh seed = refl

begins : (seed : ℕ) → lines (candidate_header ∷ candidate_rows seed) ≡ 110 ∷ (codes "ame,kind,from,to,to2,sd,sdh,price\n" ++ lines (candidate_rows seed))
unfolding line_rest
begins seed = refl

pub candidates-read : (seed : ℕ) → candidates_of (point_records seed) (candidates_text seed) ≡ candidate_records seed
unfolding candidates_of
candidates-read seed =
    ap (λ (t : List ℕ). map (candidate_record_of (point_records seed)) (drop 1 (table_rows t))) (text-is seed)
    ∙ ap (λ (rows : List (List (List ℕ))). map (candidate_record_of (point_records seed)) (drop 1 rows))
    (rows-read (candidate_header ∷ candidate_rows seed) 110 (codes "ame,kind,from,to,to2,sd,sdh,price\n" ++ lines (candidate_rows seed)) (each-line seed) (begins seed) (omega arith))
    ∙ all-read (point_records seed) (candidate_rows seed) (candidate_records seed) (rows-are seed)

under : (seed : ℕ) → rows_under candidate_header (lines (candidate_header ∷ candidate_rows seed)) ≡ Some (candidate_rows seed)
under seed = under-read candidate_header (candidate_rows seed) 110 (codes "ame,kind,from,to,to2,sd,sdh,price\n" ++ lines (candidate_rows seed)) (each-line seed) (begins seed) (omega arith) refl

pub candidates-kept : (seed : ℕ) → candidates_fault (point_records seed) (candidates_text seed) ≡ None
unfolding candidates_fault
candidates-kept seed =
    ap (first_fault (named_table (candidate_rules (point_records seed)))) (text-is seed)
    ∙ table-kept (candidate_rules (point_records seed)) (lines (candidate_header ∷ candidate_rows seed)) (candidate_rows seed) (under seed)
    (fresh-kept (candidate_rules (point_records seed)) 2 [] (candidate_rows seed) (fresh seed)
    (all-kept (point_records seed) (candidate_rows seed) (candidate_records seed) (rows-are seed)))
