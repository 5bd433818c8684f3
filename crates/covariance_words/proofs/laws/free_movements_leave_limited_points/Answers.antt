-- The law is proved in proofs/Meaning.antt.
use Rattle.covariance_words.proofs.Meaning.{movements-mean}
use Rattle.covariance_words.proofs.laws.free_movements_leave_limited_points.Goals as goal

pub returns : goal.returns
returns c = movements-mean
