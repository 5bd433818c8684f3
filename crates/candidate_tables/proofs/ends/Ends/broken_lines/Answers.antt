use Rattle.std.proofs.Common.{◌∙◌, sym}
use Rattle.candidate_tables.proofs.PlaceFacts.{lines-first, lines-none, lines-second}
use Rattle.candidate_tables.proofs.ends.Ends.broken_lines.Goals as goal

pub returns-in-Some : goal.returns-in-Some
returns-in-Some c =
    lines-first c.args.points.now c.args.self.now.kind c.args.self.now.from c.args.self.now.to c.args.self.now.to2 c.in-Some.broken (sym c.broken_line.ensures ∙ c.in-Some.is)

pub returns-in-None : goal.returns-in-None
returns-in-None c =
    lines-none c.args.points.now c.args.self.now.kind c.args.self.now.from c.args.self.now.to c.args.self.now.to2 c.in-None.is (sym c.broken_line.ensures ∙ c.in_default.is)

pub returns-in-Some-to2 : goal.returns-in-Some-to2
returns-in-Some-to2 c =
    lines-second c.args.points.now c.args.self.now.kind c.args.self.now.from c.args.self.now.to c.args.self.now.to2 c.in-Some-to2.to2 c.broken_line-in-Some-to2.result c.in-Some-to2.is
    (sym c.broken_line.ensures ∙ c.in_default.is) c.broken_line-in-Some-to2.ensures
