use Rattle.std.specs.Prelude.{codes}
use Rattle.std.specs.Fmt.{decimal}
use Rattle.std.proofs.Common.{◌++◌, ◌∙◌, ap}
use Rattle.plan_report.specs.ReportText.{values_text}
use Rattle.limit_lines.proofs.Pieces.{before}
use Rattle.plan_report.proofs.redundancies.put_redundancy.Goals as goal

pub returns : goal.returns
returns c =
    let name = c.args.name.now in
    let values = values_text 3 c.args.shown c.args.limit in
    let t0 = c.args.text.now.items in
    let t1 = c.extend_from_slice.new.self.items in
    let t2 = c.extend_from_slice-2.new.self.items in
    let t3 = c.extend_from_slice-3.new.self.items in
    let t4 = c.put_count.new.text.items in
    let t5 = c.put_values.new.text.items in
    before t0 t1 t5 (codes "redundancy,") (name ++ (codes "," ++ (decimal c.args.number ++ values))) c.in_ok-extend_from_slice.ensures.items
    (before t1 t2 t5 name (codes "," ++ (decimal c.args.number ++ values)) (c.in_ok-extend_from_slice-2.ensures.items ∙ ap (λ b. t1 ++ b) c.bytes.ensures)
    (before t2 t3 t5 (codes ",") (decimal c.args.number ++ values) c.in_ok-extend_from_slice-3.ensures.items
    (before t3 t4 t5 (decimal c.args.number) values c.in_ok-put_count.ensures c.in_ok-put_values.ensures)))
