use Rattle.std.proofs.Common.{◌∙◌}
use Rattle.candidate_tables.proofs.PlaceFacts.{height-at}
use Rattle.candidate_tables.proofs.places.lacks_height.Goals as goal

pub returns : goal.returns
returns c = c.is_absent.ensures ∙ height-at c.args.points.now c.args.place c.get.result.now c.get.ensures.value
