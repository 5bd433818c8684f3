use Rattle.std.proofs.Common.{◌≡◌, take}
use Rattle.whole_algebra.specs.Matrices.{at}
use Rattle.geo_model.specs.Energy.{energy}
use Rattle.geo_model.proofs.forms.energy.Given as goal

abbrev pub invariant-loop-i : goal.invariant-loop-i
invariant-loop-i l = l.sum ≡ energy (take l.i l.candidates) l.fn.plan (at l.x)
