use Rattle.std.proofs.Common.{◌≡◌, take}
use Rattle.whole_algebra.specs.Matrices.{at}
use Rattle.geo_model.specs.Row.{form_at}
use Rattle.geo_model.proofs.forms.form_at.Given as goal

abbrev pub invariant-loop-column : goal.invariant-loop-column
invariant-loop-column l = l.sum ≡ form_at (take l.column-index l.entries) (at l.x)
