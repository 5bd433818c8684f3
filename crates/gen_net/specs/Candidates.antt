-- The candidates table of a seed. Its draws follow the 37 of the points, each named by its place in the seed's stream.
-- This project's own.
use Rattle.std.specs.Prelude.{ℕ, ◌+◌, ◌*◌, ◌-◌, ◌%◌, List, ◌++◌, codes}
use Rattle.std.specs.Fmt.{decimal}
use Rattle.gen_net.specs.Draws.{drawn}
use Rattle.gen_net.specs.Fields.{field, label}

-- a line: name, kind, station, target, foresight, the two standard deviations and the price
abbrev pub candidate_line :
    List ℕ → List ℕ → List ℕ → List ℕ → List ℕ → List ℕ → List ℕ → ℕ → List ℕ
candidate_line name kind from to to2 sd sdh price =
    field name
    ++ (field kind
    ++ (field from ++ (field to ++ (field to2
    ++ (field sd ++ (field sdh
    ++ (decimal price ++ codes "\n")))))))

-- ---- a line of each kind, with the place of the draw of its price

unfoldable pub vector_line : ℕ → ℕ → ℕ → List ℕ → List ℕ → List ℕ
vector_line seed price number from to =
    candidate_line (label (codes "v") number) (codes "vector") from to (codes "")
    (codes "10.00") (codes "15.00") (40 + drawn seed price 20)

unfoldable pub distance_line : ℕ → ℕ → ℕ → List ℕ → List ℕ → List ℕ
distance_line seed price number from to =
    candidate_line (label (codes "d") number) (codes "distance") from to (codes "")
    (codes "8.00") (codes "") (150 + drawn seed price 50)

unfoldable pub direction_line : ℕ → ℕ → ℕ → List ℕ → List ℕ → List ℕ
direction_line seed price number from to =
    candidate_line (label (codes "r") number) (codes "direction") from to (codes "")
    (codes "10.00") (codes "") (150 + drawn seed price 50)

unfoldable pub angle_line : ℕ → ℕ → ℕ → List ℕ → List ℕ → List ℕ → List ℕ
angle_line seed price number from to to2 =
    candidate_line (label (codes "a") number) (codes "angle") from to to2
    (codes "15.00") (codes "") (150 + drawn seed price 50)

unfoldable pub level_line : ℕ → ℕ → ℕ → List ℕ → List ℕ → List ℕ
level_line seed price number from to =
    candidate_line (label (codes "l") number) (codes "level") from to (codes "")
    (codes "10.00") (codes "") (100 + drawn seed price 50)

-- ---- the lines of each kind

-- the fixed point that is counted from 0
abbrev pub fixed_name : ℕ → List ℕ
fixed_name count = label (codes "F") (count + 1)

-- the first fixed point of the vectors to new point `number`: draw one of the four
abbrev pub first_fixed : ℕ → ℕ → ℕ
first_fixed seed first = drawn seed first 4

-- the second one: another of the four
abbrev pub second_fixed : ℕ → ℕ → ℕ
second_fixed seed first = (drawn seed first 4 + 1 + drawn seed (first + 1) 3) % 4

-- two vectors to new point `number`, whose four draws begin at the place `first`
unfoldable pub vector_pair : ℕ → ℕ → ℕ → List ℕ
vector_pair seed first number =
    vector_line seed (first + 2) (2 * number - 1) (fixed_name (first_fixed seed first)) (label (codes "N") number)
    ++ vector_line seed (first + 3) (2 * number) (fixed_name (second_fixed seed first)) (label (codes "N") number)

abbrev pub vector_lines : ℕ → List ℕ
vector_lines seed =
    vector_pair seed 37 1
    ++ (vector_pair seed 41 2
    ++ (vector_pair seed 45 3
    ++ (vector_pair seed 49 4
    ++ vector_pair seed 53 5)))

-- a distance from new point `number` to a drawn fixed point; its two draws begin at the place `first`
unfoldable pub drawn_distance : ℕ → ℕ → ℕ → List ℕ
drawn_distance seed first number =
    distance_line seed (first + 1) number (label (codes "N") number) (fixed_name (drawn seed first 4))

abbrev pub distance_lines : ℕ → List ℕ
distance_lines seed =
    drawn_distance seed 57 1
    ++ (drawn_distance seed 59 2
    ++ (drawn_distance seed 61 3
    ++ (drawn_distance seed 63 4
    ++ (drawn_distance seed 65 5
    ++ distance_line seed 67 6 (codes "N1") (codes "N3")))))

abbrev pub direction_lines : ℕ → List ℕ
direction_lines seed =
    direction_line seed 68 1 (codes "N2") (codes "F1")
    ++ (direction_line seed 69 2 (codes "N2") (codes "F4")
    ++ (direction_line seed 70 3 (codes "N4") (codes "F2")
    ++ direction_line seed 71 4 (codes "N4") (codes "F3")))

abbrev pub angle_lines : ℕ → List ℕ
angle_lines seed =
    angle_line seed 72 1 (codes "N1") (codes "F2") (codes "F3")
    ++ (angle_line seed 73 2 (codes "N3") (codes "F1") (codes "F4")
    ++ (angle_line seed 74 3 (codes "N4") (codes "F1") (codes "F4")
    ++ angle_line seed 75 4 (codes "N5") (codes "F2") (codes "F3")))

abbrev pub level_lines : ℕ → List ℕ
level_lines seed =
    level_line seed 76 1 (codes "F1") (codes "N1")
    ++ (level_line seed 77 2 (codes "N1") (codes "N2")
    ++ (level_line seed 78 3 (codes "N2") (codes "N3")
    ++ level_line seed 79 4 (codes "F4") (codes "N5")))

-- the candidates table of a seed
unfoldable pub candidates_text : ℕ → List ℕ
candidates_text seed =
    codes "name,kind,from,to,to2,sd,sdh,price\n"
    ++ (vector_lines seed ++ (distance_lines seed ++ (direction_lines seed ++ (angle_lines seed ++ level_lines seed))))
