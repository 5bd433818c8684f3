-- The law is proved in proofs/Directions.antt.
use Rattle.covariance_words.proofs.Directions.{axes-eigenvalues}
use Rattle.covariance_words.proofs.laws.axes_are_eigenvalues.Goals as goal

pub returns : goal.returns
returns c = axes-eigenvalues
