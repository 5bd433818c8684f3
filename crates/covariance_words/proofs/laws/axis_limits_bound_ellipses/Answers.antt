-- The law is proved in proofs/Meaning.antt.
use Rattle.covariance_words.proofs.Meaning.{axes-mean}
use Rattle.covariance_words.proofs.laws.axis_limits_bound_ellipses.Goals as goal

pub returns : goal.returns
returns c = axes-mean
