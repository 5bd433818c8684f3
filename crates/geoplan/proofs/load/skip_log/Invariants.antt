use Rattle.std.proofs.Common.{ℕ, List, ◌-◌, ◌^◌}
use Rattle.geoplan.specs.Parts.{HasReadLog}
use Rattle.geoplan.proofs.load.skip_log.Given as goal

abbrev pub invariant-parts : goal.invariant-parts
invariant-parts g l = (text : List ℕ) × HasReadLog l.log text l.parts (g.H.Shelf.state l.fn.shelf) (g.H.Shelf.state l.shelf)

abbrev pub decreases-parts : goal.decreases-parts
decreases-parts g l = 2 ^ 28 - l.parts.at
