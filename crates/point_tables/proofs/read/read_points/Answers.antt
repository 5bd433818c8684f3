use Rattle.std.proofs.Common.{◌∙◌}
use Rattle.point_tables.specs.declared.fault.TableName.TheVariants as table
use Rattle.point_tables.specs.PointTable.{points_fault, points_of}
use Rattle.point_tables.proofs.RecordFacts.{answers-refused}
use Rattle.point_tables.proofs.read.read_points.Goals as goal

pub returns-in-Ok-clause-answer : goal.returns-in-Ok-clause-answer
unfolding points_fault points_of
returns-in-Ok-clause-answer c = (c.in-Ok.ensures.answer.0, c.of.ensures ∙ c.in-Ok.ensures.answer.1)

pub returns-in-Err-clause-answer : goal.returns-in-Err-clause-answer
unfolding points_fault
returns-in-Err-clause-answer c =
    rw c.of-in-Err.ensures (answers-refused table.Points (points_fault c.args.bytes.now) (points_of c.args.bytes.now) c.in-Err.refusal c.in-Err.ensures.answer)
