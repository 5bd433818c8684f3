-- How cuts and shares are written one after another. What stands here serves private functions and proofs. This project's own.
use Rattle.std.specs.Prelude.{ℕ, ℤ, List, [], ◌∷◌, ◌++◌, flat_map, length}
use Rattle.std.specs.Fmt.{decimal, signed_decimal}
use Rattle.std.specs.List.{join_with_byte}
use Rattle.lent_parts.specs.Pieces.{space}
use Rattle.bound_log.specs.CutText.{CutTextOf, cut_words}
use Rattle.bound_log.specs.LogText.{line_end}

-- a space and a word
abbrev pub spaced : List ℕ → List ℕ
spaced word = space ∷ word

-- two numbers, with a space before each
abbrev pub numbers_text : ℕ → ℕ → List ℕ
numbers_text first second = spaced (decimal first) ++ spaced (decimal second)

-- a pair, with a space before each word
abbrev pub pair_text : ℕ × ℤ → List ℕ
pair_text pair = spaced (decimal pair.0) ++ spaced (signed_decimal pair.1)

abbrev pub pairs_text : List (ℕ × ℤ) → List ℕ
pairs_text pairs = flat_map pair_text pairs

-- a cut, likewise: its limit, how many pairs follow, and these
abbrev pub cut_text : CutTextOf → List ℕ
cut_text cut = numbers_text cut.limit (length cut.pairs) ++ pairs_text cut.pairs

-- a line of a kind, its first byte, whose other words are those of a cut
abbrev pub cut_line_text : ℕ → CutTextOf → List ℕ
cut_line_text kind cut = join_with_byte space ((kind ∷ []) ∷ cut_words cut) ++ line_end

-- a share, likewise: its multiplier and its cut
abbrev pub share_text : ℕ × CutTextOf → List ℕ
share_text share = spaced (decimal share.0) ++ cut_text share.1

abbrev pub shares_text : List (ℕ × CutTextOf) → List ℕ
shares_text shares = flat_map share_text shares

-- a use of a cut, likewise: its multiplier and the number of its cut
abbrev pub use_text : ℕ × ℕ → List ℕ
use_text one = numbers_text one.0 one.1

abbrev pub uses_text : List (ℕ × ℕ) → List ℕ
uses_text uses = flat_map use_text uses
