use Rattle.std.proofs.Common.{◌∙◌, sym}
use Rattle.candidate_tables.proofs.PlaceFacts.{broken-extra, broken-lines, broken-part}
use Rattle.candidate_tables.proofs.ends.Ends.broken_place.Goals as goal

pub returns-in-Some : goal.returns-in-Some
returns-in-Some c =
    broken-extra c.args.points.now c.args.row.now c.args.self.now.kind c.args.self.now.from c.args.self.now.to c.args.self.now.to2 c.in-Some.broken
    (sym c.broken_extra.ensures ∙ c.in-Some.is)

pub returns-in-Some-broken_part : goal.returns-in-Some-broken_part
returns-in-Some-broken_part c =
    broken-part c.args.points.now c.args.row.now c.args.self.now.kind c.args.self.now.from c.args.self.now.to c.args.self.now.to2 c.in-Some-broken_part.broken
    (sym c.broken_extra.ensures ∙ c.in_default.is) (sym c.broken_part.ensures ∙ c.in-Some-broken_part.is)

pub returns : goal.returns
returns c =
    broken-lines c.args.points.now c.args.row.now c.args.self.now.kind c.args.self.now.from c.args.self.now.to c.args.self.now.to2 c.broken_lines.result
    (sym c.broken_extra.ensures ∙ c.in_default.is) (sym c.broken_part.ensures ∙ c.in_default-broken_part.is) c.broken_lines.ensures
