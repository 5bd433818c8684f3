use Rattle.std.proofs.Common.{◌≡◌, take}
use Rattle.std.specs.List.{enumerate_from, flat_map}
use Rattle.design_rows.specs.Unknowns.{coordinates}
use Rattle.design_rows.proofs.numbering.coordinates_of.Given as goal

abbrev pub invariant-loop-place : goal.invariant-loop-place
invariant-loop-place l = l.unknowns.items ≡ flat_map coordinates (enumerate_from 0 (take l.place l.points))
