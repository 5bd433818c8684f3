use Rattle.std.proofs.Common.{◌∙◌, sym}
use Rattle.candidate_tables.proofs.RuleFacts.{point-found, point-none}
use Rattle.candidate_tables.proofs.ends.read_point.Goals as goal

pub returns-in-Some : goal.returns-in-Some
returns-in-Some c = point-found c.args.points.now c.args.text.now c.in-Some.place (sym c.find.ensures.place ∙ c.in-Some.is)

pub returns-in-None : goal.returns-in-None
returns-in-None c = point-none c.args.points.now c.args.text.now (sym c.find.ensures.place ∙ c.in-None.is)
