use Rattle.std.proofs.Common.{◌≡◌, ◌++◌, take}
use Rattle.point_tables.specs.PointTable.{point_names}
use Rattle.plan_report.specs.RowsText.{numbered, unknown_text}
use Rattle.plan_report.proofs.rows.put_unknowns.Given as goal

abbrev pub invariant-loop-number : goal.invariant-loop-number
invariant-loop-number l = l.text.items ≡ l.fn.text.items ++ numbered (unknown_text (point_names l.points)) 0 (take l.number l.unknowns)
