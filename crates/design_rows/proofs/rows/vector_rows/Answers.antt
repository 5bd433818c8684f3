use Rattle.std.proofs.Common.{◌∙◌, ap}
use Rattle.std.specs.Prelude.{is_some}
use Rattle.design_rows.proofs.EquationFacts.{has-height}
use Rattle.design_rows.proofs.RowFacts.{three, vector-rows}
use Rattle.design_rows.proofs.rows.vector_rows.Goals as goal

pub unreachable-requires : goal.unreachable-requires
unreachable-requires c = cc (has-height c.requires.accepted.0 c.args.candidate.now c.requires.accepted.1 c.requires.kind, ap is_some c.in_default.is)

pub returns : goal.returns
returns c points =
    three c.new-rows.result.items c.push.new.self.items c.push-2.new.self.items c.push-3.new.self.items c.in_ok-difference_row.field-0 c.in_ok-difference_row-2.field-0
    c.in_ok-difference_row-3.field-0 c.new-rows.ensures.items c.in_ok-push.ensures.items c.in_ok-push-2.ensures.items c.in_ok-push-3.ensures.items
    ∙ vector-rows points c.args.columns.now c.args.candidate.now c.in_ok-difference_row.field-0 c.in_ok-difference_row-2.field-0 c.in_ok-difference_row-3.field-0
    c.in-Some.height c.requires.kind c.in-Some.is c.in_ok-difference_row.ensures c.in_ok-difference_row-2.ensures c.in_ok-difference_row-3.ensures
