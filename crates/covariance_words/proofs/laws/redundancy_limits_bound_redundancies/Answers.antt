-- The law is proved in proofs/Meaning.antt.
use Rattle.covariance_words.proofs.Meaning.{redundancies-mean}
use Rattle.covariance_words.proofs.laws.redundancy_limits_bound_redundancies.Goals as goal

pub returns : goal.returns
returns c = redundancies-mean
