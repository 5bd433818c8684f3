use Rattle.std.proofs.Common.{◌∙◌, Some, None, sym}
use Rattle.std.proofs.lemmas.Result.{err_from_is_err_and}
use Rattle.candidate_tables.proofs.RecordFacts.{columns-ends, columns-figures, columns-places, columns-read}
use Rattle.candidate_tables.proofs.read.read_columns.Goals as goal

pub returns-in_err-ends : goal.returns-in_err-ends
returns-in_err-ends c =
    let p = err_from_is_err_and c.from_residual.result c.from_residual.ensures.1 in
    rw (p.1, p.2) (columns-ends c.args.points.now c.args.row.now c.in_err-ends.field-0.0 c.in_err-ends.ensures)

pub returns-in-Some : goal.returns-in-Some
returns-in-Some c =
    columns-places c.args.points.now c.args.row.now c.in_ok-ends.ends c.in-Some.broken c.in_ok-ends.ensures.1 c.in_ok-ends.ensures.0 (sym c.broken_place.ensures ∙ c.in-Some.is)

pub returns-in_err-figures : goal.returns-in_err-figures
returns-in_err-figures c =
    let p = err_from_is_err_and c.from_residual-in_err-figures.result c.from_residual-in_err-figures.ensures.1 in
    rw (p.1, p.2)
    (columns-figures c.args.points.now c.args.row.now c.in_ok-ends.ends (Some c.in_err-figures.field-0.0) c.in_ok-ends.ensures.1 c.in_ok-ends.ensures.0
    (sym c.broken_place.ensures ∙ c.in_default.is) c.in_err-figures.ensures)

pub returns : goal.returns
returns c = (
  columns-figures c.args.points.now c.args.row.now c.in_ok-ends.ends None c.in_ok-ends.ensures.1 c.in_ok-ends.ensures.0
      (sym c.broken_place.ensures ∙ c.in_default.is) c.in_ok-figures.ensures.0,
  columns-read c.args.points.now c.args.row.now c.in_ok-ends.ends c.in_ok-figures.figures c.in_ok-ends.ensures.1 c.in_ok-figures.ensures.1,
)
