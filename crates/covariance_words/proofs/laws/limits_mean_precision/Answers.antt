-- The law is proved in proofs/Meaning.antt.
use Rattle.covariance_words.proofs.Meaning.{limits-mean}
use Rattle.covariance_words.proofs.laws.limits_mean_precision.Goals as goal

pub returns : goal.returns
returns c = limits-mean
