use Rattle.std.proofs.Common.{◌≡◌, drop}
use Rattle.std.specs.List.{list_all}
use Rattle.geoplan.specs.CommandOf.{is_plain}
use Rattle.geoplan.proofs.command.are_plain.Given as goal

abbrev pub invariant-loop-k : goal.invariant-loop-k
invariant-loop-k l = list_all is_plain (drop 1 l.words) ≡ list_all is_plain (drop l.k l.words)
