use Rattle.std.proofs.Common.{◌∙◌, FitsSigned, rules, w64}
use Rattle.std.proofs.lemmas.Int.{to_z-of_z}
use Rattle.point_tables.proofs.PlaceFacts.{y-at}
use Rattle.point_tables.proofs.points.Points.y.Goals as goal

pub returns-clause-value : goal.returns-clause-value
returns-clause-value c =
    let fits : FitsSigned w64 c.unwrap_or.result = search rules in
    to_z-of_z w64 c.unwrap_or.result fits ∙ c.unwrap_or.ensures ∙ y-at c.args.self.now c.args.k c.get.result.now c.get.ensures.value
