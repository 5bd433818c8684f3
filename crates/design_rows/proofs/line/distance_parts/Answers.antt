use Rattle.design_rows.proofs.LineFacts.{squared-cast}
use Rattle.design_rows.proofs.line.distance_parts.Goals as goal

pub dist_coef-requires-clause-least : goal.dist_coef-requires-clause-least
dist_coef-requires-clause-least c =
    let line = c.line_between-line.ensures in
    rw (squared-cast c.args.points.now c.args.from c.args.to c.line_between-line.result.x c.line_between-line.result.y line.x_size line.y_size line.x line.y) c.requires.least

pub dist_coef-requires-clause-most : goal.dist_coef-requires-clause-most
dist_coef-requires-clause-most c =
    let line = c.line_between-line.ensures in
    rw (squared-cast c.args.points.now c.args.from c.args.to c.line_between-line.result.x c.line_between-line.result.y line.x_size line.y_size line.x line.y) c.requires.most

pub dist_coef-requires-2-clause-least : goal.dist_coef-requires-2-clause-least
dist_coef-requires-2-clause-least c =
    let line = c.line_between-line.ensures in
    rw (squared-cast c.args.points.now c.args.from c.args.to c.line_between-line.result.x c.line_between-line.result.y line.x_size line.y_size line.x line.y) c.requires.least

pub dist_coef-requires-2-clause-most : goal.dist_coef-requires-2-clause-most
dist_coef-requires-2-clause-most c =
    let line = c.line_between-line.ensures in
    rw (squared-cast c.args.points.now c.args.from c.args.to c.line_between-line.result.x c.line_between-line.result.y line.x_size line.y_size line.x line.y) c.requires.most
