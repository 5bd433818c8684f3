-- The cuts that are named, as the replay keeps them. This project's own; it serves the proof of the replay, and no public clause
-- cites it.
use Rattle.std.specs.Prelude.{◌≡◌, ℕ, ◌≤◌, ◌&&◌, ltb, Bool, List, length, All}
use Rattle.whole_algebra.specs.Matrices.{at}
use Rattle.geo_model.specs.Row.{IsNarrow}
use Rattle.bound_log.specs.CutText.{CutTextOf, moves_from}
use Rattle.bound_log.specs.Rules.{is_weight}
use Rattle.log_check.specs.declared.named_cuts.StoredCut.{StoredCut}

-- what a name spells
abbrev pub text_of_stored : StoredCut → CutTextOf
text_of_stored cut = record { limit = cut.limit; pairs = moves_from 0 cut.moves }

-- the displacement that is kept has an entry for each of 64 unknowns, at most 32768 in size
pub record IsStored (cut : StoredCut) : Type 0 where
  pub long : length cut.moves ≡ 64
  pub narrow : IsNarrow (at cut.moves)

-- there is room for 65536 cuts, and there are no more
pub record AreNamesKept (places : ℕ) (cuts : List StoredCut) : Type 0 where
  pub room : 65536 ≤ places
  pub few : length cuts ≤ 65536
  pub each : All IsStored cuts

-- a use of one of so many cuts is in its range
abbrev pub is_use_in_range : ℕ → ℕ × ℕ → Bool
is_use_in_range count one = is_weight one.0 && ltb one.1 count
