use Rattle.std.proofs.Common.{◌≡◌, take}
use Rattle.whole_algebra.specs.Matrices.{at}
use Rattle.geo_model.specs.Limit.{load}
use Rattle.geo_model.proofs.forms.load.Given as goal

abbrev pub invariant-loop-square : goal.invariant-loop-square
invariant-loop-square l = l.sum ≡ load (take l.square-index l.squares) (at l.x)
