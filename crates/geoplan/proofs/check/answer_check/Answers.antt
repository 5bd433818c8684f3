use Rattle.std.proofs.Common.{inl}
use Rattle.geoplan.proofs.PartLemmas.{countable}
use Rattle.geoplan.proofs.check.answer_check.Goals as goal

pub returns-in-Ok-feed_log : goal.returns-in-Ok-feed_log
returns-in-Ok-feed_log g c =
    let (text, read, fed) = c.in-Ok-feed_log.ensures.read in
    inl (text, read, rw (c.in-Ok-feed_log.ensures.network, c.in-Ok.ensures.network, c.network.ensures) at (c.replayed.ensures text fed (countable text read.has.0)))
