use Rattle.candidate_tables.specs.CandidateTable as candidate
use Rattle.point_tables.specs.PointTable as point
use Rattle.plan_report.proofs.Numbered.{rows_text-is}
use Rattle.plan_report.proofs.rows.rows_text.Goals as goal

pub returns : goal.returns
returns c =
    rows_text-is (point.point_names c.args.points.now) (candidate.candidate_names c.args.candidates.now) c.args.network.now c.new-text.result.items
    c.put_unknowns.new.text.items c.put_candidates.new.text.items c.unknowns.result.now c.candidates.result.now
    c.new-text.ensures.items c.unknowns.ensures.value c.candidates.ensures.value c.in_ok-put_unknowns.ensures c.in_ok-put_candidates.ensures
