use Rattle.std.proofs.Common.{◌++◌, ap, ◌∙◌, sym, get_or, [], arith}
use Rattle.geo_model.specs.declared.network.Component.TheVariants as component
use Rattle.geo_model.specs.declared.network.Unknown.{Unknown}
use Rattle.point_tables.specs.PointTable.{point_names}
use Rattle.plan_report.specs.RowsText.{unknown_text, unknown_line}
use Rattle.plan_report.proofs.Numbered.{map-at, numbered-grows, get_or-inside}
use Rattle.plan_report.proofs.rows.put_unknowns.Goals as goal

pub loop-number-preserved : goal.loop-number-preserved
loop-number-preserved c =
    let here : Unknown = get_or c.args.unknowns.now c.loop-number.number (record { point = 0; component = component.X }) in
    let name = map-at (λ point. point.name) c.args.points.now here.point c.get.result.now [] c.get.ensures.value in
    numbered-grows (unknown_text (point_names c.args.points.now)) 0 c.loop-number.number c.loop-number.number c.args.unknowns.now here
    c.args.text.now.items c.loop-number.text.items c.put_unknown.new.text.items
    c.loop-number-test.true (get_or-inside c.args.unknowns.now c.loop-number.number (record { point = 0; component = component.X }) here c.loop-number-test.true)
    (omega arith) c.loop-number.invariant
    (c.in_ok-put_unknown.ensures ∙ ap (λ n. c.loop-number.text.items ++ unknown_line n c.loop-number.number here.component) (sym name))
