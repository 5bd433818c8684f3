-- The law is proved in proofs/Meaning.antt.
use Rattle.covariance_words.proofs.Meaning.{met-limits-mean}
use Rattle.covariance_words.proofs.laws.met_limits_hold_and_are_precise.Goals as goal

pub returns : goal.returns
returns c = met-limits-mean
