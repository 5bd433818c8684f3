use Rattle.std.proofs.Common.{ap, ◌∙◌}
use Rattle.point_tables.specs.PointTable.{points_fault, points_of}
use Rattle.gen_feasible.proofs.Tables.{tables-feasible}
use Rattle.gen_bench.proofs.TableLemmas.{never_faulty}
use Rattle.gen_bench.proofs.network.seed_points.Goals as goal

pub returns-in-Ok-clause-points : goal.returns-in-Ok-clause-points
returns-in-Ok-clause-points c = c.in-Ok.ensures.answer.1 ∙ ap points_of (c.as_slice.ensures.value ∙ c.in_ok-text.ensures)

pub unreachable-requires : goal.unreachable-requires
unreachable-requires c =
    never_faulty _ _ _ c.read_points.result c.read_points.ensures.answer c.in-Err-Fault.field-0 _
    (ap points_fault (c.as_slice.ensures.value ∙ c.in_ok-text.ensures) ∙ (tables-feasible c.args.seed).points_accepted)
    c.in-Err-Fault.is c.in-Err-Fault.field-0-is
