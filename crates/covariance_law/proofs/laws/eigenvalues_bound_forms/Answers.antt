-- The law is proved in proofs/Eigenvalues.antt.
use Rattle.covariance_law.proofs.Eigenvalues.{eigenvalues_and_forms}
use Rattle.covariance_law.proofs.laws.eigenvalues_bound_forms.Goals as goal

pub returns : goal.returns
returns c = eigenvalues_and_forms
