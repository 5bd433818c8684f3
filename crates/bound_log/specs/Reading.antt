-- What is spelled by words, read from the front of a list of words: a pair, a cut, a share, and so many of them. What stands
-- here serves private functions and proofs. This project's own.
use Rattle.std.specs.Prelude.{◌≡◌, ℕ, zero, suc, List, [], ◌∷◌, ◌++◌, length, flat_map}
use Rattle.std.specs.List.{slice_split}
use Rattle.lent_parts.specs.Pieces.{is_space}
use Rattle.bound_log.specs.Numbers.{AreShort}

-- the words begin with those of an item, and these are the words after it
pub record BeginsWithItem {X : Type 0} (item_words : X → List (List ℕ)) (item_numbers : X → List ℕ) (words : List (List ℕ)) (item : X) (after : List (List ℕ)) : Type 0 where
  pub spelled : words ≡ item_words item ++ after
  pub short : AreShort (item_numbers item)

-- the words begin with those of so many items, and these are the words after them
pub record ManyBegin {X : Type 0} (item_words : X → List (List ℕ)) (item_numbers : X → List ℕ) (count : ℕ) (words : List (List ℕ)) (items : List X) (after : List (List ℕ)) : Type 0 where
  pub counted : length items ≡ count
  pub spelled : words ≡ flat_map item_words items ++ after
  pub short : AreShort (flat_map item_numbers items)

-- so many items, read from the front of words, where this is the item there and these are the words after it
abbrev pub items_in : {X : Type 0} → (List (List ℕ) → X) → (List (List ℕ) → List (List ℕ)) → ℕ → List (List ℕ) → List X
items_in item_in after_item zero words = []
items_in item_in after_item (suc more) words = item_in words ∷ items_in item_in after_item more (after_item words)

-- the words after so many items
abbrev pub after_items : (List (List ℕ) → List (List ℕ)) → ℕ → List (List ℕ) → List (List ℕ)
after_items after_item zero words = words
after_items after_item (suc more) words = after_items after_item more (after_item words)

-- the words of a text
abbrev pub words_in : List ℕ → List (List ℕ)
words_in text = slice_split is_space text
