-- Cuts as the lines of a log spell them: a limit, and the unknowns that a displacement moves. This project's own.
use Rattle.std.specs.Prelude.{ℕ, suc, ltb, List, [], ◌∷◌, length, flat_map, ℤ, pos, unsigned_abs, ◌==◌, if◌then◌else◌}
use Rattle.std.specs.Fmt.{decimal, signed_decimal}
use Rattle.cut_pool.specs.Cut.{CutOf}

-- the number of a limit, and each unknown that moves, by its number, with how far: as they stand in the text, in range or not
pub record CutTextOf : Type 0 where
  pub limit : ℕ
  pub pairs : List (ℕ × ℤ)

-- ---- words

-- the words of an unknown and of how far it moves: `I V`
abbrev pub pair_words : ℕ × ℤ → List (List ℕ)
pair_words pair = decimal pair.0 ∷ signed_decimal pair.1 ∷ []

abbrev pub pairs_words : List (ℕ × ℤ) → List (List ℕ)
pairs_words pairs = flat_map pair_words pairs

-- the words of a cut: `L M`, and those of the M pairs
abbrev pub cut_words : CutTextOf → List (List ℕ)
cut_words cut = decimal cut.limit ∷ decimal (length cut.pairs) ∷ pairs_words cut.pairs

-- the numbers of an unknown and of how far it moves, without its sign
abbrev pub pair_numbers : ℕ × ℤ → List ℕ
pair_numbers pair = pair.0 ∷ unsigned_abs pair.1 ∷ []

-- the numbers in the text of a cut, from left to right, without their signs
abbrev pub cut_numbers : CutTextOf → List ℕ
cut_numbers cut = cut.limit ∷ length cut.pairs ∷ flat_map pair_numbers cut.pairs

-- ---- displacements

-- the displacement of pairs: each gives its unknown its number, and no other unknown moves
abbrev pub displaced_by : List (ℕ × ℤ) → ℕ → ℤ
displaced_by [] i = pos 0
displaced_by (pair ∷ rest) i = if pair.0 == i then pair.1 else displaced_by rest i

-- the unknowns that a list of moves moves, where the first one is that of unknown `first`
abbrev pub moves_from : ℕ → List ℤ → List (ℕ × ℤ)
moves_from first [] = []
moves_from first (move ∷ rest) = if ltb 0 (unsigned_abs move) then (first, move) ∷ moves_from (suc first) rest else moves_from (suc first) rest

-- a cut of a pool as a line spells it
abbrev pub text_of_cut : CutOf → CutTextOf
text_of_cut cut = record { limit = cut.limit; pairs = moves_from 0 cut.x }
