use Rattle.std.proofs.Common.{◌≡◌, false}
use Rattle.geo_model.specs.Below.{any_below}
use Rattle.geo_model.specs.Prices.{chooses_at}
use Rattle.geo_model.proofs.price.uses_station.Given as goal

abbrev pub invariant-loop-i : goal.invariant-loop-i
invariant-loop-i l = any_below (chooses_at l.network.stations l.plan l.station) l.i ≡ false
