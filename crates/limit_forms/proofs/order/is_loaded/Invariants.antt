use Rattle.std.proofs.Common.{◌≡◌, take, false}
use Rattle.limit_forms.specs.Grid.{occurs}
use Rattle.limit_forms.proofs.order.is_loaded.Given as goal

abbrev pub invariant-loop-square : goal.invariant-loop-square
invariant-loop-square l = occurs (take l.square-index l.squares) l.unknown ≡ false
