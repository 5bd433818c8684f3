-- How the uses of a dual bound of format 2 are read word by word. What stands here serves private functions and proofs. This
-- project's own.
use Rattle.std.specs.Prelude.{◌≡◌, ℕ, List, [], ◌∷◌, ◌++◌}
use Rattle.std.specs.Str.Parse.{digits_value}
use Rattle.bound_log.specs.Numbers.{AreShort}
use Rattle.bound_log.specs.Reading.{BeginsWithItem, ManyBegin, after_items, items_in}
use Rattle.bound_log.specs.UseText.{use_dual_numbers, use_dual_words, use_numbers, use_words}

-- the words begin with those of a use, of so many uses, of a dual bound; and these are the words after them
abbrev pub UseBegins : List (List ℕ) → ℕ × ℕ → List (List ℕ) → Type 0
UseBegins words one after = BeginsWithItem use_words use_numbers words one after

abbrev pub UsesBegin : ℕ → List (List ℕ) → List (ℕ × ℕ) → List (List ℕ) → Type 0
UsesBegin count words uses after = ManyBegin use_words use_numbers count words uses after

pub record UseDualBegins (words : List (List ℕ)) (divisor : ℕ) (uses : List (ℕ × ℕ)) (after : List (List ℕ)) : Type 0 where
  pub spelled : words ≡ use_dual_words divisor uses ++ after
  pub short : AreShort (use_dual_numbers divisor uses)

-- ---- the uses as a function of the words

-- the use at the front of words, and the words after it
abbrev pub use_in : List (List ℕ) → ℕ × ℕ
use_in [] = (0, 0)
use_in (multiplier ∷ []) = (0, 0)
use_in (multiplier ∷ cut ∷ words) = (digits_value 10 multiplier, digits_value 10 cut)

abbrev pub after_use : List (List ℕ) → List (List ℕ)
after_use [] = []
after_use (multiplier ∷ []) = []
after_use (multiplier ∷ cut ∷ words) = words

-- so many uses, and the words after them
abbrev pub uses_in : ℕ → List (List ℕ) → List (ℕ × ℕ)
uses_in count words = items_in use_in after_use count words

abbrev pub after_uses : ℕ → List (List ℕ) → List (List ℕ)
after_uses count words = after_items after_use count words

-- so many uses can be read from the front of words
abbrev pub CanReadUses : ℕ → List (List ℕ) → Type 0
CanReadUses count words = UsesBegin count words (uses_in count words) (after_uses count words)
