use Rattle.std.proofs.Common.{◌≡◌, ◌↔◌, ℕ, Bool, false, IsTrue, List}
use Rattle.std.proofs.lemmas.Bool.{iff_false}
use Rattle.geo_model.specs.Network.{NetworkOf}
use Rattle.pivot_chain.specs.Certified.{IsCertified, IsMetAt}
use Rattle.pivot_chain.proofs.CertifiedLemmas.{met_at}

-- a plan of which a test says that it isn't met on a limit isn't certified
pub not_certified : (network : NetworkOf) (plan : List Bool) (number : ℕ) (result : Bool) → (IsTrue result ↔ IsMetAt network plan number) → result ≡ false →
    IsCertified network plan → ⊥
not_certified network plan number result tests is certified =
    iff_false tests is (met_at network plan number certified.certified)
