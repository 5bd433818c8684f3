use Rattle.std.specs.Prelude.{codes}
use Rattle.std.proofs.Common.{◌++◌, ◌∙◌, ap}
use Rattle.std.proofs.lemmas.Int.{to_z-of_z}
use Rattle.std.specs.Fmt.{decimal}
use Rattle.candidate_tables.specs.CandidateTable as candidate
use Rattle.point_tables.specs.PointTable as point
use Rattle.limit_lines.specs.LimitText.{limit_text}
use Rattle.plan_report.specs.ReportText.{interval_text}
use Rattle.plan_report.proofs.ReportLines.{six_pieces}
use Rattle.plan_report.proofs.open_limit.open_line.Goals as goal

pub returns : goal.returns
returns c =
    let interval = simp (to_z-of_z, c.ranges.lo, c.ranges.hi) at c.in_ok-put_interval.ensures in
    let name = limit_text (point.point_names c.args.points.now) (candidate.candidate_names c.args.candidates.now) c.args.kind in
    six_pieces c.in_ok-text.text.items c.put_limit_name.new.text.items c.extend_from_slice.new.self.items c.put_count.new.text.items c.extend_from_slice-2.new.self.items c.put_interval.new.text.items
    (codes "open,") name (codes ",") (decimal c.args.step) (codes ",") (interval_text c.args.lo c.args.hi)
    c.in_ok-text.ensures.items c.in_ok-put_limit_name.ensures c.in_ok-extend_from_slice.ensures.items (c.in_ok-put_count.ensures ∙ ap (λ n. c.extend_from_slice.new.self.items ++ decimal n) c.from.ensures)
    c.in_ok-extend_from_slice-2.ensures.items interval
