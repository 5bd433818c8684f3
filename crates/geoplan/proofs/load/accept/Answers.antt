use Rattle.geoplan.proofs.LoadLemmas.{built_candidates, good_tables}
use Rattle.geoplan.proofs.load.accept.Goals as goal

pub equip-requires-clause-long : goal.equip-requires-clause-long
equip-requires-clause-long c = built_candidates c.args.redundancy c.args.points c.args.candidates c.in-Ok.network c.in-Ok.ensures.answer.1

pub returns-in-Ok-equip-clause-good : goal.returns-in-Ok-equip-clause-good
returns-in-Ok-equip-clause-good c =
    good_tables c.args.redundancy c.args.points c.args.candidates c.args.stations c.in-Ok.network c.in-Ok-equip.network c.new.result c.new.ensures
    c.in-Ok.ensures.answer.1 c.in-Ok.ensures.bounds c.in-Ok-equip.ensures.equipped c.in-Ok-equip.ensures.bounds
    (record { accepted = c.requires.points; against = c.requires.accepted; small = c.in-Ok.ensures.answer.0; redundancy = c.requires.redundancy })
