-- What a token is to its line. This project's own.
use Rattle.std.specs.Prelude.{◌≡◌, ℕ, List, length, take, drop, All, IsFalse}
use Rattle.lent_parts.specs.Pieces.{TokenOf, is_space}

-- a token is the slice of its line at its start, and has no space in it
pub record IsSliceOf (line : List ℕ) (token : TokenOf) : Type 0 where
  pub slice : take (length token.text) (drop token.start line) ≡ token.text
  pub whole : All (λ c. IsFalse (is_space c)) token.text
