use Rattle.std.proofs.Common.{◌≡◌, ◌∙◌, [], ◌∷◌, List, subst}
use Rattle.std.specs.Prelude.{IfOk}
use Rattle.geo_model.specs.Row.{RowOf}
use Rattle.design_rows.specs.Rows.{rows_of}
use Rattle.design_rows.proofs.RowFacts.{direction-rows, distance-rows, level-rows}
use Rattle.design_rows.proofs.rows.rows_of.Goals as goal
use Rattle.design_rows.proofs.rows.rows_of.Goals.{in-Distance+in_ok-row-in-Distance, in-Direction+in_ok-row-in-Direction, in-Level+in_ok-row-in-Level}

pub returns : goal.returns
returns c =
    let same : (c.match-candidate.row ∷ []) ≡ rows_of c.args.points.now c.args.columns.now c.args.candidate.now = elim c.match-candidate.branch [
      | in-Distance+in_ok-row-in-Distance w ↦ distance-rows c.args.points.now c.args.columns.now c.args.candidate.now c.match-candidate.row w.in-Distance.is (w.row-is ∙ w.in_ok-row-in-Distance.ensures)
      | in-Direction+in_ok-row-in-Direction w ↦ direction-rows c.args.points.now c.args.columns.now c.args.candidate.now c.match-candidate.row w.in-Direction.is (w.row-is ∙ w.in_ok-row-in-Direction.ensures)
      | in-Level+in_ok-row-in-Level w ↦ level-rows c.args.points.now c.args.columns.now c.args.candidate.now c.match-candidate.row w.in-Level.is (w.row-is ∙ w.in_ok-row-in-Level.ensures)
    ] in
    subst (λ (rs : List RowOf). IfOk c.one_row.result (λ rows. rows.items ≡ rs)) same c.one_row.ensures
