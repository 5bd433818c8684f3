use Rattle.std.specs.Prelude.{codes}
use Rattle.std.specs.Fmt.{decimal}
use Rattle.std.proofs.Common.{◌∙◌, ap, ◌++◌}
use Rattle.plan_report.specs.RowsText.{component_text}
use Rattle.limit_lines.proofs.Pieces.{seven_pieces}
use Rattle.plan_report.proofs.rows.put_unknown.Goals as goal

pub returns : goal.returns
returns c =
    seven_pieces c.args.text.now.items c.extend_from_slice.new.self.items c.put_count.new.text.items c.extend_from_slice-2.new.self.items
    c.extend_from_slice-3.new.self.items c.extend_from_slice-4.new.self.items c.extend_from_slice-5.new.self.items c.extend_from_slice-6.new.self.items
    (codes "unknown,") (decimal c.args.number) (codes ",") c.args.name.now (codes ",") (component_text c.args.component) (codes "\n")
    c.in_ok-extend_from_slice.ensures.items c.in_ok-put_count.ensures c.in_ok-extend_from_slice-2.ensures.items
    (c.in_ok-extend_from_slice-3.ensures.items ∙ ap (λ b. c.extend_from_slice-2.new.self.items ++ b) c.bytes.ensures)
    c.in_ok-extend_from_slice-4.ensures.items (c.in_ok-extend_from_slice-5.ensures.items ∙ ap (λ b. c.extend_from_slice-4.new.self.items ++ b) c.component_word.ensures) c.in_ok-extend_from_slice-6.ensures.items
