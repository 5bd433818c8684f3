use Rattle.std.proofs.Common.{◌≡◌, ℕ, List, ◌-◌, ◌^◌}
use Rattle.log_check.specs.Fed.{HasFed}
use Rattle.geoplan.specs.Parts.{HasReadLog}
use Rattle.geoplan.proofs.check.feed_log.Given as goal

-- what was read was handed in
abbrev pub invariant-parts : goal.invariant-parts
invariant-parts g l =
    (text : List ℕ) × HasReadLog l.log text l.parts (g.H.Shelf.state l.fn.shelf) (g.H.Shelf.state l.shelf) × HasFed text l.replayer × (l.replayer.network ≡ l.fn.replayer.network)

abbrev pub decreases-parts : goal.decreases-parts
decreases-parts g l = 2 ^ 28 - l.parts.at
