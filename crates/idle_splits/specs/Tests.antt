use Rattle.std.specs.Prelude.{◌≡◌, ℕ, length}
use Rattle.geo_model.specs.Network.{NetworkOf}
use Rattle.idle_splits.specs.UnitCuts.{AreUnitCuts}
use Rattle.idle_splits.specs.declared.unit_cuts.UnitCuts.{UnitCuts}

-- The test of splits with its room. This project's own.

-- the unit cuts, and for how many candidates there is room
pub record IdleTestOf : Type 0 where
  pub cuts : UnitCuts
  pub places : ℕ

-- a test is for a network: it has the network's unit cuts, and a place for each candidate
pub record IsTestOf (network : NetworkOf) (test : IdleTestOf) : Type 0 where
  pub cuts : AreUnitCuts network test.cuts
  pub places : test.places ≡ length network.candidates
