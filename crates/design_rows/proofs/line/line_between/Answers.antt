use Rattle.point_tables.specs.Coordinates.{x_at, y_at}
use Rattle.design_rows.proofs.LineFacts.{difference-is}
use Rattle.design_rows.proofs.line.line_between.Goals as goal

pub returns-clause-x : goal.returns-clause-x
returns-clause-x c =
    (difference-is c.x.result c.x-2.result (x_at c.args.points.now c.args.to) (x_at c.args.points.now c.args.from) c.x.ensures.size c.x-2.ensures.size
    c.x.ensures.value c.x-2.ensures.value).is

pub returns-clause-x_size : goal.returns-clause-x_size
returns-clause-x_size c =
    (difference-is c.x.result c.x-2.result (x_at c.args.points.now c.args.to) (x_at c.args.points.now c.args.from) c.x.ensures.size c.x-2.ensures.size
    c.x.ensures.value c.x-2.ensures.value).size

pub returns-clause-y : goal.returns-clause-y
returns-clause-y c =
    (difference-is c.y.result c.y-2.result (y_at c.args.points.now c.args.to) (y_at c.args.points.now c.args.from) c.y.ensures.size c.y-2.ensures.size
    c.y.ensures.value c.y-2.ensures.value).is

pub returns-clause-y_size : goal.returns-clause-y_size
returns-clause-y_size c =
    (difference-is c.y.result c.y-2.result (y_at c.args.points.now c.args.to) (y_at c.args.points.now c.args.from) c.y.ensures.size c.y-2.ensures.size
    c.y.ensures.value c.y-2.ensures.value).size
