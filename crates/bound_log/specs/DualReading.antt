-- How the shares of a dual bound are read word by word. What stands here serves private functions and proofs. This project's own.
use Rattle.std.specs.Prelude.{◌≡◌, ℕ, List, [], ◌∷◌, ◌++◌}
use Rattle.std.specs.Str.Parse.{digits_value}
use Rattle.bound_log.specs.CutReading.{after_cut, cut_in}
use Rattle.bound_log.specs.CutText.{CutTextOf}
use Rattle.bound_log.specs.DualText.{dual_numbers, dual_words, share_numbers, share_words}
use Rattle.bound_log.specs.Numbers.{AreShort}
use Rattle.bound_log.specs.Reading.{BeginsWithItem, ManyBegin, after_items, items_in}

-- the words begin with those of a share, of so many shares, of a dual bound; and these are the words after them
abbrev pub ShareBegins : List (List ℕ) → ℕ × CutTextOf → List (List ℕ) → Type 0
ShareBegins words share after = BeginsWithItem share_words share_numbers words share after

abbrev pub SharesBegin : ℕ → List (List ℕ) → List (ℕ × CutTextOf) → List (List ℕ) → Type 0
SharesBegin count words shares after = ManyBegin share_words share_numbers count words shares after

pub record DualBegins (words : List (List ℕ)) (divisor : ℕ) (shares : List (ℕ × CutTextOf)) (after : List (List ℕ)) : Type 0 where
  pub spelled : words ≡ dual_words divisor shares ++ after
  pub short : AreShort (dual_numbers divisor shares)

-- ---- the shares as a function of the words

-- the share at the front of words, and the words after it
abbrev pub share_in : List (List ℕ) → ℕ × CutTextOf
share_in [] = (0, cut_in [])
share_in (multiplier ∷ words) = (digits_value 10 multiplier, cut_in words)

abbrev pub after_share : List (List ℕ) → List (List ℕ)
after_share [] = []
after_share (multiplier ∷ words) = after_cut words

-- so many shares, and the words after them
abbrev pub shares_in : ℕ → List (List ℕ) → List (ℕ × CutTextOf)
shares_in count words = items_in share_in after_share count words

abbrev pub after_shares : ℕ → List (List ℕ) → List (List ℕ)
after_shares count words = after_items after_share count words

-- so many shares can be read from the front of words
abbrev pub CanReadShares : ℕ → List (List ℕ) → Type 0
CanReadShares count words = SharesBegin count words (shares_in count words) (after_shares count words)
