use Rattle.std.proofs.Common.{◌≡◌, take, false}
use Rattle.std.specs.List.{list_any}
use Rattle.limit_forms.specs.Grid.{has_column}
use Rattle.factor_stack.proofs.first_place.touches.Given as goal

abbrev pub invariant-loop-row : goal.invariant-loop-row
invariant-loop-row l = list_any (λ row. has_column row.entries l.unknown) (take l.row-index l.rows) ≡ false
