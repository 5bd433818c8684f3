-- The shape of a certificate, and its steps. This project's own; the rule of a step is in `Certificates` of whole_algebra.
use Rattle.std.specs.Prelude.{ℕ, zero, suc, List, [], ◌∷◌, length, All, ℤ}
use Rattle.lent_parts.specs.Triangle.{IsTri}
use Rattle.psd_cert.specs.Sizes.{Fits}
use Rattle.whole_algebra.specs.Certificates.{StepHolds}

-- n remainders, of the sizes n - 1 down to 0
abbrev pub IsCertificate : ℕ → List (List (List ℤ)) → Type 0
IsCertificate zero [] = Unit {0}
IsCertificate zero (r ∷ rs) = ⊥
IsCertificate (suc n) [] = ⊥
IsCertificate (suc n) (r ∷ rs) = IsTri n r × IsCertificate n rs

-- the step from a matrix to a remainder holds
abbrev pub StepFrom : List (List ℤ) → List (List ℤ) → Type 0
StepFrom [] remainder = ⊥
StepFrom (row ∷ rest) remainder = StepHolds row rest remainder

-- what a certificate keeps: the sizes of its remainders go down by one to 0, and their entries are within the limit
abbrev pub IsKeptCertificate : List (List (List ℤ)) → Type 0
IsKeptCertificate rs = IsCertificate (length rs) rs × All Fits rs
