use Rattle.std.proofs.Common.{◌∙◌, sym}
use Rattle.candidate_tables.proofs.RuleFacts.{point-found, point-none}
use Rattle.station_tables.proofs.StationFacts.{found-named}
use Rattle.station_tables.proofs.read.read_point.Goals as goal

pub returns-in-Some-clause-point : goal.returns-in-Some-clause-point
returns-in-Some-clause-point c = point-found c.args.points.now c.args.text.now c.in-Some.place (sym c.find.ensures.place ∙ c.in-Some.is)

pub returns-in-Some-clause-named : goal.returns-in-Some-clause-named
returns-in-Some-clause-named c =
    found-named c.args.points.now c.in-Some.place c.args.text.now c.get-accepted.result.now ((c.find.ensures.found c.in-Some.place).0 c.in-Some.is) c.get-accepted.ensures.value c.get-accepted.ensures.accepted.name

pub returns-in-None-clause-point : goal.returns-in-None-clause-point
returns-in-None-clause-point c = point-none c.args.points.now c.args.text.now (sym c.find.ensures.place ∙ c.in-None.is)
