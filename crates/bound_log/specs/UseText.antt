-- Uses of cuts by their numbers, as the lines of a log of format 2 spell them: each a multiplier and the number of a cut.
-- This project's own.
use Rattle.std.specs.Prelude.{ℕ, List, [], ◌∷◌, length, flat_map, map}
use Rattle.std.specs.Fmt.{decimal}
use Rattle.cut_pool.specs.declared.share.Share.{Share}

-- the words of a use: its multiplier `Y`, and the number `J` of its cut
abbrev pub use_words : ℕ × ℕ → List (List ℕ)
use_words one = decimal one.0 ∷ decimal one.1 ∷ []

-- the words of a dual bound: the divisor `D`, the number of uses `R`, and those of the R uses
abbrev pub use_dual_words : ℕ → List (ℕ × ℕ) → List (List ℕ)
use_dual_words divisor uses = decimal divisor ∷ decimal (length uses) ∷ flat_map use_words uses

-- the numbers in the text of a use, from left to right
abbrev pub use_numbers : ℕ × ℕ → List ℕ
use_numbers one = one.0 ∷ one.1 ∷ []

-- .. of a dual bound
abbrev pub use_dual_numbers : ℕ → List (ℕ × ℕ) → List ℕ
use_dual_numbers divisor uses = divisor ∷ length uses ∷ flat_map use_numbers uses

-- the use of a share, whose cut has the same number in its pool and in the log
abbrev pub use_of : Share → ℕ × ℕ
use_of share = (share.y, share.cut)

-- those of shares
abbrev pub uses_of : List Share → List (ℕ × ℕ)
uses_of shares = map use_of shares
