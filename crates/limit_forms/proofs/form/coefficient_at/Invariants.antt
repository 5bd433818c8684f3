use Rattle.std.proofs.Common.{◌≡◌, take}
use Rattle.normal_matrix.specs.Entries.{coefficient}
use Rattle.limit_forms.proofs.form.coefficient_at.Given as goal

abbrev pub invariant-loop-place : goal.invariant-loop-place
invariant-loop-place l = l.sum ≡ coefficient (take l.place-index l.entries) l.column
