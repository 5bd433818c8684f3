-- The points table of a seed: four fixed points at the corners of a square of 4 km, five new ones within it. Each draw
-- is named by its place in the seed's stream. This project's own.
use Rattle.std.specs.Prelude.{ℕ, ◌+◌, ◌*◌, List, ◌++◌, codes}
use Rattle.gen_net.specs.Draws.{drawn}
use Rattle.gen_net.specs.Fields.{field, metres, tenths}

-- name and coordinates of a point: x and y in metres, to which less than `spread` mm are added, and a height of 100 m to
-- which less than 50 m are added
abbrev pub place_text : ℕ → ℕ → List ℕ → ℕ → ℕ → ℕ → List ℕ
place_text seed first name x y spread =
    field name
    ++ (field (metres (1000 * x + drawn seed first spread))
    ++ (field (metres (1000 * y + drawn seed (first + 1) spread))
    ++ field (metres (100000 + drawn seed (first + 2) 50000))))

-- the line of a fixed point, whose three draws begin at the place `first`
unfoldable pub fixed_line : ℕ → ℕ → List ℕ → ℕ → ℕ → List ℕ
fixed_line seed first name x y = place_text seed first name x y 100000 ++ codes "fixed,fixed\n"

-- the line of a new point, whose five draws begin at the place `first`: the last two are its limits
unfoldable pub new_line : ℕ → ℕ → List ℕ → ℕ → ℕ → List ℕ
new_line seed first name x y =
    place_text seed first name x y 200000
    ++ (field (tenths (75 + drawn seed (first + 3) 6))
    ++ (tenths (110 + drawn seed (first + 4) 11) ++ codes "\n"))

-- the fixed points
abbrev pub fixed_lines : ℕ → List ℕ
fixed_lines seed =
    fixed_line seed 0 (codes "F1") 1000 1000
    ++ (fixed_line seed 3 (codes "F2") 1000 5000
    ++ (fixed_line seed 6 (codes "F3") 5000 1000
    ++ fixed_line seed 9 (codes "F4") 5000 5000))

-- the new points
abbrev pub new_lines : ℕ → List ℕ
new_lines seed =
    new_line seed 12 (codes "N1") 2000 2000
    ++ (new_line seed 17 (codes "N2") 2000 4000
    ++ (new_line seed 22 (codes "N3") 3000 3000
    ++ (new_line seed 27 (codes "N4") 4000 2000
    ++ new_line seed 32 (codes "N5") 4000 4000)))

-- the points table of a seed
unfoldable pub points_text : ℕ → List ℕ
points_text seed = codes "name,x,y,z,plane,height\n" ++ (fixed_lines seed ++ new_lines seed)
