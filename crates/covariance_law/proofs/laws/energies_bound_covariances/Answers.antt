-- The law is proved in proofs/Law.antt.
use Rattle.covariance_law.proofs.Law.{energies_and_covariances}
use Rattle.covariance_law.proofs.laws.energies_bound_covariances.Goals as goal

pub returns : goal.returns
returns c = energies_and_covariances
