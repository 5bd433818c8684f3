use Rattle.std.proofs.Common.{◌+◌, arith}
use Rattle.plan_report.specs.RowsText.{row_text}
use Rattle.plan_report.proofs.Numbered.{numbered-grows}
use Rattle.plan_report.proofs.rows.put_rows.Goals as goal

pub loop-k-preserved : goal.loop-k-preserved
loop-k-preserved c =
    numbered-grows (row_text c.args.name.now) 1 c.loop-k.k (c.loop-k.k + 1) c.args.rows.now c.index-rows-k.result
    c.args.text.now.items c.loop-k.text.items c.put_row.new.text.items
    c.loop-k-test.true c.index-rows-k.is (omega arith) c.loop-k.invariant c.in_ok-put_row.ensures
