use Rattle.pivot_chain.proofs.Verdicts.{refuted_sound}
use Rattle.pivot_chain.proofs.laws.refuted_is_sound.Goals as goal

pub returns : goal.returns
returns c = refuted_sound
