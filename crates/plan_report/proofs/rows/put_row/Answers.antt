use Rattle.std.specs.Prelude.{codes, flat_map}
use Rattle.std.specs.Fmt.{decimal}
use Rattle.std.proofs.Common.{◌∙◌, ap, ◌++◌, rules, FitsSigned, w64}
use Rattle.std.proofs.lemmas.Int.{to_z-of_z}
use Rattle.text_num.specs.Whole.{whole_text}
use Rattle.plan_report.specs.RowsText.{entry_text}
use Rattle.plan_report.proofs.Numbered.{pieces-8}
use Rattle.plan_report.proofs.rows.put_row.Goals as goal

pub returns : goal.returns
returns c =
    let fits : FitsSigned w64 c.weight.result = search rules in
    let weight = simp (to_z-of_z, fits) at c.in_ok-put_number.ensures in
    pieces-8 c.args.text.now.items c.extend_from_slice.new.self.items c.extend_from_slice-2.new.self.items c.extend_from_slice-3.new.self.items
    c.put_count.new.text.items c.extend_from_slice-4.new.self.items c.put_number.new.text.items c.put_entries.new.text.items c.extend_from_slice-5.new.self.items
    (codes "row,") c.args.name.now (codes ",") (decimal c.args.number) (codes ",") (whole_text c.args.row.now.weight)
    (flat_map entry_text c.args.row.now.entries) (codes "\n")
    c.in_ok-extend_from_slice.ensures.items (c.in_ok-extend_from_slice-2.ensures.items ∙ ap (λ b. c.extend_from_slice.new.self.items ++ b) c.bytes.ensures) c.in_ok-extend_from_slice-3.ensures.items
    c.in_ok-put_count.ensures c.in_ok-extend_from_slice-4.ensures.items
    (weight ∙ ap (λ w. c.extend_from_slice-4.new.self.items ++ whole_text w) c.weight.ensures)
    (c.in_ok-put_entries.ensures ∙ ap (λ e. c.put_number.new.text.items ++ flat_map entry_text e) c.entries.ensures) c.in_ok-extend_from_slice-5.ensures.items
