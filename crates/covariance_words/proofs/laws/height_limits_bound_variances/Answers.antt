-- The law is proved in proofs/Meaning.antt.
use Rattle.covariance_words.proofs.Meaning.{heights-mean}
use Rattle.covariance_words.proofs.laws.height_limits_bound_variances.Goals as goal

pub returns : goal.returns
returns c = heights-mean
