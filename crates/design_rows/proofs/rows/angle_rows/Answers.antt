use Rattle.std.proofs.Common.{◌≡◌, List, ap, subst}
use Rattle.std.specs.Prelude.{IfOk, is_some}
use Rattle.geo_model.specs.Row.{RowOf}
use Rattle.design_rows.proofs.EquationFacts.{has-foresight}
use Rattle.design_rows.proofs.RowFacts.{angle-rows}
use Rattle.design_rows.proofs.rows.angle_rows.Goals as goal

pub unreachable-requires : goal.unreachable-requires
unreachable-requires c = cc (has-foresight c.args.points.now c.args.candidate.now c.requires.accepted c.requires.kind, ap is_some c.in_default.is)

pub returns : goal.returns
returns c =
    subst (λ (rs : List RowOf). IfOk c.one_row.result (λ rows. rows.items ≡ rs))
    (angle-rows c.args.points.now c.args.columns.now c.args.candidate.now c.in_ok-row.row c.in-Some.foresight c.requires.kind c.in-Some.is c.in_ok-row.ensures) c.one_row.ensures
