-- How the pairs of a cut are read word by word. What stands here serves private functions and proofs. This project's own.
use Rattle.std.specs.Prelude.{ℕ, ◌==◌, List, [], ◌∷◌, ℤ, pos, neg_ℤ, if◌then◌else◌}
use Rattle.std.specs.Str.Parse.{digits_value}
use Rattle.bound_log.specs.CutText.{CutTextOf, cut_numbers, cut_words, pair_numbers, pair_words}
use Rattle.bound_log.specs.Reading.{BeginsWithItem, ManyBegin, after_items, items_in}

-- the words begin with those of a pair, of so many pairs, of a cut; and these are the words after them
abbrev pub PairBegins : List (List ℕ) → ℕ × ℤ → List (List ℕ) → Type 0
PairBegins words pair after = BeginsWithItem pair_words pair_numbers words pair after

abbrev pub PairsBegin : ℕ → List (List ℕ) → List (ℕ × ℤ) → List (List ℕ) → Type 0
PairsBegin count words pairs after = ManyBegin pair_words pair_numbers count words pairs after

abbrev pub CutBegins : List (List ℕ) → CutTextOf → List (List ℕ) → Type 0
CutBegins words cut after = BeginsWithItem cut_words cut_numbers words cut after

-- ---- the pairs as a function of the words

-- the value of the text of a whole number
abbrev pub signed_value : List ℕ → ℤ
signed_value [] = pos 0
signed_value (c ∷ digits) = if c == 45 then neg_ℤ (pos (digits_value 10 digits)) else pos (digits_value 10 (c ∷ digits))

-- the pair at the front of words, and the words after it
abbrev pub pair_in : List (List ℕ) → ℕ × ℤ
pair_in [] = (0, pos 0)
pair_in (unknown ∷ []) = (0, pos 0)
pair_in (unknown ∷ move ∷ words) = (digits_value 10 unknown, signed_value move)

abbrev pub after_pair : List (List ℕ) → List (List ℕ)
after_pair [] = []
after_pair (unknown ∷ []) = []
after_pair (unknown ∷ move ∷ words) = words

-- so many pairs, and the words after them
abbrev pub pairs_in : ℕ → List (List ℕ) → List (ℕ × ℤ)
pairs_in count words = items_in pair_in after_pair count words

abbrev pub after_pairs : ℕ → List (List ℕ) → List (List ℕ)
after_pairs count words = after_items after_pair count words

-- so many pairs can be read from the front of words
abbrev pub CanRead : ℕ → List (List ℕ) → Type 0
CanRead count words = PairsBegin count words (pairs_in count words) (after_pairs count words)

-- the cut at the front of words, and the words after it
abbrev pub cut_in : List (List ℕ) → CutTextOf
cut_in [] = record { limit = 0; pairs = [] }
cut_in (limit ∷ []) = record { limit = 0; pairs = [] }
cut_in (limit ∷ count ∷ words) = record { limit = digits_value 10 limit; pairs = pairs_in (digits_value 10 count) words }

abbrev pub after_cut : List (List ℕ) → List (List ℕ)
after_cut [] = []
after_cut (limit ∷ []) = []
after_cut (limit ∷ count ∷ words) = after_pairs (digits_value 10 count) words
