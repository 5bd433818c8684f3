use Rattle.bound_log.proofs.SoundLemmas.{HasBoundFor-below}
use Rattle.bound_log.proofs.laws.checker_is_sound.Goals as goal

pub returns : goal.returns
returns c = HasBoundFor-below
