use Rattle.std.proofs.Common.{◌≡◌, take, false}
use Rattle.std.specs.List.{list_any}
use Rattle.design_rows.specs.Unknowns.{turns_with}
use Rattle.design_rows.proofs.numbering.is_oriented.Given as goal

abbrev pub invariant-loop-k : goal.invariant-loop-k
invariant-loop-k l = list_any (turns_with l.place) (take l.k l.candidates) ≡ false
