use Rattle.std.specs.Prelude.{◌≡◌, ◌<◌, ℕ, List, All, Option, Some, length, slice_get}
use Rattle.cut_pool.specs.Cut.{CutOf}
use Rattle.geo_model.specs.Network.{NetworkOf}
use Rattle.bound_log.specs.CutText.{CutTextOf}
use Rattle.bound_log.specs.DualText.{text_or_none}
use Rattle.bound_log.specs.Meanings.{AreNames}

-- The names that a search gives to cuts of its pool: the first cut that the log names gets the name 0, and so on. This
-- project's own.

-- what the places of a pool's cuts tell of their names is what the list of the named cuts says
pub record TellsNames (names : List (Option ℕ)) (numbers : List ℕ) : Type 0 where
  pub there : (number name : ℕ) → slice_get names number ≡ Some (Some name) → slice_get numbers name ≡ Some number
  pub back : (number name : ℕ) → slice_get numbers name ≡ Some number → slice_get names number ≡ Some (Some name)

-- the named cuts, each by its number, are cuts of a pool, and none is named twice
pub record IsNaming (pool : List CutOf) (numbers : List ℕ) : Type 0 where
  pub within : All (λ number. number < length pool) numbers
  pub once : (one other number : ℕ) → slice_get numbers one ≡ Some number → slice_get numbers other ≡ Some number → one ≡ other

-- a cut of a pool, by its number, as a line spells it
abbrev pub text_at : List CutOf → ℕ → CutTextOf
text_at pool number = text_or_none (slice_get pool number)

-- no two of the cuts are of the same limit and displacement
abbrev pub AreOnce : List CutTextOf → Type 0
AreOnce cuts = (one other : ℕ) (cut : CutTextOf) → slice_get cuts one ≡ Some cut → slice_get cuts other ≡ Some cut → one ≡ other

-- the cuts that a log of the network names, each once
pub record AreNamesOnce (network : NetworkOf) (cuts : List CutTextOf) : Type 0 where
  pub names : AreNames network cuts
  pub once : AreOnce cuts
