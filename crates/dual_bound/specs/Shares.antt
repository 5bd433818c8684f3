-- Shares of a dual bound: multipliers of cuts of a pool. This project's own.
use Rattle.std.specs.Prelude.{◌≡◌, ℕ, ◌≤◌, ◌<◌, ◌^◌, List, [], All, length, map, slice_get, Option, Some, None}
use Rattle.geo_model.specs.Cover.{CoverOf}
use Rattle.geo_model.specs.Dual.{WeighedCover}
use Rattle.cut_pool.specs.Cut.{CutOf, cover}
use Rattle.cut_pool.specs.declared.share.Share.{Share}

-- the covering inequality of a cut, or none
abbrev pub cover_or_none : Option CutOf → CoverOf
cover_or_none None = record { coefficients = []; bound = 0 }
cover_or_none (Some cut) = cover cut

-- the covering inequality and the multiplier of a share of a pool
abbrev pub weighed : List CutOf → Share → WeighedCover
weighed pool share = record { multiplier = share.y; cover = cover_or_none (slice_get pool share.cut) }

-- those of shares
abbrev pub weighed_covers : List CutOf → List Share → List WeighedCover
weighed_covers pool shares = map (weighed pool) shares

-- a cut whose numbers are as a cut's of so many candidates (its type keeps nothing of them)
pub record IsSmallCover (count : ℕ) (cover : CoverOf) : Type 0 where
  pub each : length cover.coefficients ≡ count
  pub coefficients : All (λ coefficient. coefficient < 2 ^ 24) cover.coefficients
  pub bound : cover.bound < 2 ^ 24

-- a share as a log may have it, of a cut of the pool
pub record IsShare (count : ℕ) (pool : List CutOf) (share : Share) : Type 0 where
  pub low : 1 ≤ share.y
  pub high : share.y ≤ 2 ^ 44
  pub named : share.cut < length pool
  pub small : (cut : CutOf) → slice_get pool share.cut ≡ Some cut → IsSmallCover count (cover cut)

-- what a dual bound of so many candidates asks of its divisor and its shares
pub record AreShares (count : ℕ) (pool : List CutOf) (d : ℕ) (shares : List Share) : Type 0 where
  pub low : 1 ≤ d
  pub high : d ≤ 2 ^ 44
  pub few : length shares ≤ 64
  pub each : All (IsShare count pool) shares
