use Rattle.pivot_chain.proofs.Verdicts.{met_sound}
use Rattle.pivot_chain.proofs.laws.met_is_sound.Goals as goal

pub returns : goal.returns
returns c = met_sound
