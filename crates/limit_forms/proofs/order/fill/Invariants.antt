use Rattle.std.proofs.Common.{◌≡◌, ◌+◌, ◌++◌, take, length}
use Rattle.std.specs.List.{filter, range_with_len}
use Rattle.limit_forms.specs.Grid.{is_in_part}
use Rattle.limit_forms.proofs.order.fill.Given as goal

abbrev pub invariant-loop-unknown : goal.invariant-loop-unknown
invariant-loop-unknown l = record {
  next : l.next ≡ l.from + length (filter (is_in_part l.squares l.part) (range_with_len 0 l.unknown));
  written : take l.next l.order ≡ take l.from l.initial.order ++ filter (is_in_part l.squares l.part) (range_with_len 0 l.unknown);
}
