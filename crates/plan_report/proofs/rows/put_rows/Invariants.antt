use Rattle.std.proofs.Common.{◌≡◌, ◌++◌, take}
use Rattle.plan_report.specs.RowsText.{numbered, row_text}
use Rattle.plan_report.proofs.rows.put_rows.Given as goal

abbrev pub invariant-loop-k : goal.invariant-loop-k
invariant-loop-k l = l.text.items ≡ l.fn.text.items ++ numbered (row_text l.name) 1 (take l.k l.rows)
