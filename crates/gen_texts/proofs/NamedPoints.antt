-- The points that candidates name, and the lines between them.
use Rattle.std.proofs.Common.{◌≡◌, ◌<◌, ◌≤◌, ◌==◌, ◌⊎◌, inl, inr, ℕ, zero, suc, false, refl, arith}
use Rattle.std.specs.Prelude.{codes}
use Rattle.std.specs.Fmt.{digits}
use Rattle.std.proofs.lemmas.Bool.{ne_eqb}
use Rattle.table_columns.specs.Names.{place_of}
use Rattle.candidate_tables.specs.Places.{lacks_height, lacks_plane}
use Rattle.gen_net.specs.Candidates.{fixed_name}
use Rattle.gen_net.specs.Fields.{label}
use Rattle.gen_records.specs.Records.{fixed_point, new_point, point_records}
use Rattle.gen_records.proofs.LongLines.{AreApart, F1-lies, F2-lies, F3-lies, F4-lies, IsLong, LiesAt, N1-lies, N2-lies, N3-lies, N4-lies, N5-lies, above, line-long}
use Rattle.gen_texts.proofs.CandidateRows.{IsNamed}
use Rattle.gen_texts.proofs.PlainTexts.{plain-tested}

-- ---- the names

pub F1-named : (seed : ℕ) → IsNamed (point_records seed) (codes "F1") 0
unfolding place_of point_records fixed_point new_point lacks_plane lacks_height
F1-named seed = record { at = refl; plane = refl; height = refl; plain = plain-tested (codes "F1") refl }

pub F2-named : (seed : ℕ) → IsNamed (point_records seed) (codes "F2") 1
unfolding place_of point_records fixed_point new_point lacks_plane lacks_height
F2-named seed = record { at = refl; plane = refl; height = refl; plain = plain-tested (codes "F2") refl }

pub F3-named : (seed : ℕ) → IsNamed (point_records seed) (codes "F3") 2
unfolding place_of point_records fixed_point new_point lacks_plane lacks_height
F3-named seed = record { at = refl; plane = refl; height = refl; plain = plain-tested (codes "F3") refl }

pub F4-named : (seed : ℕ) → IsNamed (point_records seed) (codes "F4") 3
unfolding place_of point_records fixed_point new_point lacks_plane lacks_height
F4-named seed = record { at = refl; plane = refl; height = refl; plain = plain-tested (codes "F4") refl }

pub N1-named : (seed : ℕ) → IsNamed (point_records seed) (codes "N1") 4
unfolding place_of point_records fixed_point new_point lacks_plane lacks_height
N1-named seed = record { at = refl; plane = refl; height = refl; plain = plain-tested (codes "N1") refl }

pub N2-named : (seed : ℕ) → IsNamed (point_records seed) (codes "N2") 5
unfolding place_of point_records fixed_point new_point lacks_plane lacks_height
N2-named seed = record { at = refl; plane = refl; height = refl; plain = plain-tested (codes "N2") refl }

pub N3-named : (seed : ℕ) → IsNamed (point_records seed) (codes "N3") 6
unfolding place_of point_records fixed_point new_point lacks_plane lacks_height
N3-named seed = record { at = refl; plane = refl; height = refl; plain = plain-tested (codes "N3") refl }

pub N4-named : (seed : ℕ) → IsNamed (point_records seed) (codes "N4") 7
unfolding place_of point_records fixed_point new_point lacks_plane lacks_height
N4-named seed = record { at = refl; plane = refl; height = refl; plain = plain-tested (codes "N4") refl }

pub N5-named : (seed : ℕ) → IsNamed (point_records seed) (codes "N5") 8
unfolding place_of point_records fixed_point new_point lacks_plane lacks_height
N5-named seed = record { at = refl; plane = refl; height = refl; plain = plain-tested (codes "N5") refl }

-- a drawn fixed point
pub fixed-named : (seed a : ℕ) → a < 4 → IsNamed (point_records seed) (fixed_name a) a
unfolding digits
fixed-named seed zero low = F1-named seed
fixed-named seed (suc zero) low = F2-named seed
fixed-named seed (suc (suc zero)) low = F3-named seed
fixed-named seed (suc (suc (suc zero))) low = F4-named seed
fixed-named seed (suc (suc (suc (suc a)))) low = absurd (omega arith)

-- the new point of a number
pub N1-label : (seed : ℕ) → IsNamed (point_records seed) (label (codes "N") 1) 4
unfolding digits
N1-label seed = N1-named seed

pub N2-label : (seed : ℕ) → IsNamed (point_records seed) (label (codes "N") 2) 5
unfolding digits
N2-label seed = N2-named seed

pub N3-label : (seed : ℕ) → IsNamed (point_records seed) (label (codes "N") 3) 6
unfolding digits
N3-label seed = N3-named seed

pub N4-label : (seed : ℕ) → IsNamed (point_records seed) (label (codes "N") 4) 7
unfolding digits
N4-label seed = N4-named seed

pub N5-label : (seed : ℕ) → IsNamed (point_records seed) (label (codes "N") 5) 8
unfolding digits
N5-label seed = N5-named seed

-- a drawn fixed point is none of the new ones
pub fixed-new : (a n : ℕ) → a < 4 → 4 ≤ n → (a == n) ≡ false
fixed-new a n low high = ne_eqb a n (λ e. apart a n low high e)
  where
    apart : (a n : ℕ) → a < 4 → 4 ≤ n → a ≡ n → ⊥
    apart a n low high e = omega arith

pub new-fixed : (a n : ℕ) → a < 4 → 4 ≤ n → (n == a) ≡ false
new-fixed a n low high = ne_eqb n a (λ e. apart a n low high e)
  where
    apart : (a n : ℕ) → a < 4 → 4 ≤ n → n ≡ a → ⊥
    apart a n low high e = omega arith

-- ---- the lines

-- coordinates in metres of a corner of the square, and within it
abbrev IsCorner : ℕ → Type 0
IsCorner c = (c ≡ 1000) ⊎ (c ≡ 5000)

abbrev IsWithin : ℕ → Type 0
IsWithin n = (2000 ≤ n) × (n ≤ 4000)

corner-apart : (n c : ℕ) → IsWithin n → IsCorner c → AreApart n c
corner-apart n c (low, high) (inl e) = inr (omega arith, omega arith)
corner-apart n c (low, high) (inr e) = inl (omega arith, omega arith)

-- where a fixed point lies
record IsAtCorner (seed a : ℕ) : Type 0 where
  pub x : ℕ
  pub y : ℕ
  pub lies : LiesAt seed a x y
  pub x_corner : IsCorner x
  pub y_corner : IsCorner y

fixed-lies : (seed a : ℕ) → a < 4 → IsAtCorner seed a
fixed-lies seed zero low = record { x = 1000; y = 1000; lies = F1-lies seed; x_corner = inl refl; y_corner = inl refl }
fixed-lies seed (suc zero) low = record { x = 1000; y = 5000; lies = F2-lies seed; x_corner = inl refl; y_corner = inr refl }
fixed-lies seed (suc (suc zero)) low = record { x = 5000; y = 1000; lies = F3-lies seed; x_corner = inr refl; y_corner = inl refl }
fixed-lies seed (suc (suc (suc zero))) low = record { x = 5000; y = 5000; lies = F4-lies seed; x_corner = inr refl; y_corner = inr refl }
fixed-lies seed (suc (suc (suc (suc a)))) low = absurd (omega arith)

new-long : (seed n x y a : ℕ) → LiesAt seed n x y → IsWithin x → IsWithin y → a < 4 → IsLong (point_records seed) n a
new-long seed n x y a lies in_x in_y low =
    let corner = fixed-lies seed a low in
    line-long seed n a x y corner.x corner.y lies corner.lies (corner-apart x corner.x in_x corner.x_corner) (corner-apart y corner.y in_y corner.y_corner)

pub N1-long : (seed a : ℕ) → a < 4 → IsLong (point_records seed) 4 a
N1-long seed a low = new-long seed 4 2000 2000 a (N1-lies seed) (omega arith, omega arith) (omega arith, omega arith) low

pub N2-long : (seed a : ℕ) → a < 4 → IsLong (point_records seed) 5 a
N2-long seed a low = new-long seed 5 2000 4000 a (N2-lies seed) (omega arith, omega arith) (omega arith, omega arith) low

pub N3-long : (seed a : ℕ) → a < 4 → IsLong (point_records seed) 6 a
N3-long seed a low = new-long seed 6 3000 3000 a (N3-lies seed) (omega arith, omega arith) (omega arith, omega arith) low

pub N4-long : (seed a : ℕ) → a < 4 → IsLong (point_records seed) 7 a
N4-long seed a low = new-long seed 7 4000 2000 a (N4-lies seed) (omega arith, omega arith) (omega arith, omega arith) low

pub N5-long : (seed a : ℕ) → a < 4 → IsLong (point_records seed) 8 a
N5-long seed a low = new-long seed 8 4000 4000 a (N5-lies seed) (omega arith, omega arith) (omega arith, omega arith) low

pub N1-N3-long : (seed : ℕ) → IsLong (point_records seed) 4 6
N1-N3-long seed = line-long seed 4 6 2000 2000 3000 3000 (N1-lies seed) (N3-lies seed) (above 2000 3000 (omega arith) (omega arith)) (above 2000 3000 (omega arith) (omega arith))
