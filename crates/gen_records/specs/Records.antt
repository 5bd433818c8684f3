-- The records of the tables of a seed: nine points and 28 candidates. Each draw is named by its place in the seed's stream.
-- This project's own.
use Rattle.std.specs.Prelude.{ℕ, ◌+◌, ◌*◌, pos, List, [], ◌∷◌, ◌++◌, codes, Some, None}
use Rattle.point_tables.specs.declared.part.Part.TheVariants as part
use Rattle.point_tables.specs.declared.record.PointRecord.{PointRecord}
use Rattle.candidate_tables.specs.declared.kind.Kind.TheVariants as kind
use Rattle.candidate_tables.specs.declared.record.CandidateRecord.{CandidateRecord}
use Rattle.gen_net.specs.Draws.{drawn}
use Rattle.gen_net.specs.Fields.{label}
use Rattle.gen_net.specs.Candidates.{first_fixed, second_fixed}

-- ---- the points

-- a fixed point near x and y metres, whose three draws begin at the place `first`
unfoldable pub fixed_point : ℕ → ℕ → List ℕ → ℕ → ℕ → PointRecord
fixed_point seed first name x y = record {
  name = name;
  x = Some (pos (1000 * x + drawn seed first 100000));
  y = Some (pos (1000 * y + drawn seed (first + 1) 100000));
  z = Some (pos (100000 + drawn seed (first + 2) 50000));
  plane = part.Fixed;
  height = part.Fixed;
}

-- a new point near x and y metres, whose five draws begin at the place `first`: the last two are its limits
unfoldable pub new_point : ℕ → ℕ → List ℕ → ℕ → ℕ → PointRecord
new_point seed first name x y = record {
  name = name;
  x = Some (pos (1000 * x + drawn seed first 200000));
  y = Some (pos (1000 * y + drawn seed (first + 1) 200000));
  z = Some (pos (100000 + drawn seed (first + 2) 50000));
  plane = part.New (75 + drawn seed (first + 3) 6);
  height = part.New (110 + drawn seed (first + 4) 11);
}

-- the points of a seed: F1 to F4 have the numbers 0 to 3, and N1 to N5 the numbers 4 to 8
unfoldable pub point_records : ℕ → List PointRecord
point_records seed =
    fixed_point seed 0 (codes "F1") 1000 1000
    ∷ fixed_point seed 3 (codes "F2") 1000 5000
    ∷ fixed_point seed 6 (codes "F3") 5000 1000
    ∷ fixed_point seed 9 (codes "F4") 5000 5000
    ∷ new_point seed 12 (codes "N1") 2000 2000
    ∷ new_point seed 17 (codes "N2") 2000 4000
    ∷ new_point seed 22 (codes "N3") 3000 3000
    ∷ new_point seed 27 (codes "N4") 4000 2000
    ∷ new_point seed 32 (codes "N5") 4000 4000
    ∷ []

-- ---- a candidate of each kind, with the place of the draw of its price; points by their numbers

unfoldable pub vector_record : ℕ → ℕ → ℕ → ℕ → ℕ → CandidateRecord
vector_record seed price number from to = record {
  name = label (codes "v") number;
  kind = kind.Vector;
  from = from;
  to = to;
  to2 = None;
  sd = 1000;
  sdh = Some 1500;
  price = 40 + drawn seed price 20;
}

unfoldable pub distance_record : ℕ → ℕ → ℕ → ℕ → ℕ → CandidateRecord
distance_record seed price number from to = record {
  name = label (codes "d") number;
  kind = kind.Distance;
  from = from;
  to = to;
  to2 = None;
  sd = 800;
  sdh = None;
  price = 150 + drawn seed price 50;
}

unfoldable pub direction_record : ℕ → ℕ → ℕ → ℕ → ℕ → CandidateRecord
direction_record seed price number from to = record {
  name = label (codes "r") number;
  kind = kind.Direction;
  from = from;
  to = to;
  to2 = None;
  sd = 1000;
  sdh = None;
  price = 150 + drawn seed price 50;
}

unfoldable pub angle_record : ℕ → ℕ → ℕ → ℕ → ℕ → ℕ → CandidateRecord
angle_record seed price number from to to2 = record {
  name = label (codes "a") number;
  kind = kind.Angle;
  from = from;
  to = to;
  to2 = Some to2;
  sd = 1500;
  sdh = None;
  price = 150 + drawn seed price 50;
}

unfoldable pub level_record : ℕ → ℕ → ℕ → ℕ → ℕ → CandidateRecord
level_record seed price number from to = record {
  name = label (codes "l") number;
  kind = kind.Level;
  from = from;
  to = to;
  to2 = None;
  sd = 1000;
  sdh = None;
  price = 100 + drawn seed price 50;
}

-- ---- the candidates

-- two vectors from fixed points to each new one
unfoldable pub vector_records : ℕ → List CandidateRecord
vector_records seed =
    vector_record seed 39 1 (first_fixed seed 37) 4
    ∷ vector_record seed 40 2 (second_fixed seed 37) 4
    ∷ vector_record seed 43 3 (first_fixed seed 41) 5
    ∷ vector_record seed 44 4 (second_fixed seed 41) 5
    ∷ vector_record seed 47 5 (first_fixed seed 45) 6
    ∷ vector_record seed 48 6 (second_fixed seed 45) 6
    ∷ vector_record seed 51 7 (first_fixed seed 49) 7
    ∷ vector_record seed 52 8 (second_fixed seed 49) 7
    ∷ vector_record seed 55 9 (first_fixed seed 53) 8
    ∷ vector_record seed 56 10 (second_fixed seed 53) 8
    ∷ []

-- a distance from each new point to a fixed one, and one between two new ones
unfoldable pub distance_records : ℕ → List CandidateRecord
distance_records seed =
    distance_record seed 58 1 4 (drawn seed 57 4)
    ∷ distance_record seed 60 2 5 (drawn seed 59 4)
    ∷ distance_record seed 62 3 6 (drawn seed 61 4)
    ∷ distance_record seed 64 4 7 (drawn seed 63 4)
    ∷ distance_record seed 66 5 8 (drawn seed 65 4)
    ∷ distance_record seed 67 6 4 6
    ∷ []

-- two directions from each of two stations
unfoldable pub direction_records : ℕ → List CandidateRecord
direction_records seed =
    direction_record seed 68 1 5 0
    ∷ direction_record seed 69 2 5 3
    ∷ direction_record seed 70 3 7 1
    ∷ direction_record seed 71 4 7 2
    ∷ []

unfoldable pub angle_records : ℕ → List CandidateRecord
angle_records seed =
    angle_record seed 72 1 4 1 2
    ∷ angle_record seed 73 2 6 0 3
    ∷ angle_record seed 74 3 7 0 3
    ∷ angle_record seed 75 4 8 1 2
    ∷ []

unfoldable pub level_records : ℕ → List CandidateRecord
level_records seed =
    level_record seed 76 1 0 4
    ∷ level_record seed 77 2 4 5
    ∷ level_record seed 78 3 5 6
    ∷ level_record seed 79 4 3 8
    ∷ []

-- what is observed besides the vectors
abbrev pub other_records : ℕ → List CandidateRecord
other_records seed = distance_records seed ++ (direction_records seed ++ (angle_records seed ++ level_records seed))

-- the candidates of a seed
unfoldable pub candidate_records : ℕ → List CandidateRecord
candidate_records seed = vector_records seed ++ other_records seed
