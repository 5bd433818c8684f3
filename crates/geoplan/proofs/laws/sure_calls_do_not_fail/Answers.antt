use Rattle.geoplan.proofs.MemoryLemmas.{unwritten_rose, none_rose}
use Rattle.geoplan.proofs.laws.sure_calls_do_not_fail.Goals as goal

pub returns-clause-writes : goal.returns-clause-writes
returns-clause-writes c = λ command before now sink sink_now is. none_rose (unwritten_rose command _ _ _ _ is)
