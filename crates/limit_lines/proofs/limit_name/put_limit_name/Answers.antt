use Rattle.std.specs.Prelude.{codes}
use Rattle.std.specs.Fmt.{decimal}
use Rattle.std.proofs.Common.{◌++◌, ◌+◌, [], ◌∙◌, ap, get_or, sym}
use Rattle.candidate_tables.specs.CandidateTable as candidate
use Rattle.point_tables.specs.PointTable as point
use Rattle.geo_model.specs.declared.limit.LimitKind.{LimitKind}
use Rattle.limit_lines.specs.LimitText.{limit_text}
use Rattle.limit_lines.proofs.Pieces.{four_pieces}
use Rattle.limit_lines.proofs.limit_name.put_limit_name.Goals as goal

pub returns-in_ok-put_count-in-Redundancy : goal.returns-in_ok-put_count-in-Redundancy
unfolding limit_text
returns-in_ok-put_count-in-Redundancy c =
    let points = point.point_names c.args.points.now in
    let candidates = candidate.candidate_names c.args.candidates.now in
    let first = c.in_ok-extend_from_slice-in-Redundancy.ensures.items in
    let name = c.in_ok-extend_from_slice-in-Redundancy-2.ensures.items in
    four_pieces c.args.text.now.items c.extend_from_slice-in-Redundancy.new.self.items c.extend_from_slice-in-Redundancy-2.new.self.items c.extend_from_slice-in-Redundancy-3.new.self.items c.put_count.new.text.items
    (codes "redundancy,") (get_or candidates c.in-Redundancy.owner []) (codes ",") (decimal (c.in-Redundancy.row + 1))
    first (name ∙ ap (λ t. c.extend_from_slice-in-Redundancy.new.self.items ++ t) c.candidate_name.ensures) c.in_ok-extend_from_slice-in-Redundancy-3.ensures.items
    (c.in_ok-put_count-in-Redundancy.ensures ∙ ap (λ n. c.extend_from_slice-in-Redundancy-3.new.self.items ++ decimal (n + 1)) c.from.ensures)
    ∙ ap (λ (k : LimitKind). c.args.text.now.items ++ limit_text points candidates k) (sym c.in-Redundancy.is)
