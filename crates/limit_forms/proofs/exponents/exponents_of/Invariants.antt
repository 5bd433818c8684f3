use Rattle.std.proofs.Common.{◌≡◌, take, map}
use Rattle.std.specs.List.{range_with_len}
use Rattle.limit_forms.specs.Grid.{exponent_at}
use Rattle.limit_forms.proofs.exponents.exponents_of.Given as goal

abbrev pub invariant-loop-unknown : goal.invariant-loop-unknown
invariant-loop-unknown l = take l.unknown l.exponents ≡ map (exponent_at l.network.candidates l.alpha) (range_with_len 0 l.unknown)
