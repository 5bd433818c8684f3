use Rattle.std.proofs.Common.{◌≡◌, take}
use Rattle.design_rows.specs.Rows.{entries_of}
use Rattle.design_rows.proofs.entries.entries_of.Given as goal

abbrev pub invariant-loop-column : goal.invariant-loop-column
invariant-loop-column l = l.entries.items ≡ entries_of (take l.column l.unknowns) l.terms
