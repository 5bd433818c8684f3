use Rattle.std.proofs.Common.{◌≡◌, ◌++◌, take}
use Rattle.std.specs.List.{enumerate_from, flat_map}
use Rattle.design_rows.specs.Unknowns.{orientation}
use Rattle.design_rows.proofs.numbering.push_orientations.Given as goal

abbrev pub invariant-loop-place : goal.invariant-loop-place
invariant-loop-place l = l.unknowns.items ≡ l.initial.unknowns.items ++ flat_map (orientation l.candidates) (enumerate_from 0 (take l.place l.points))
