-- The form of a limit under a plan: the symmetric matrix that says how far the limit is met.
-- This project's own words; the matrix is that of the inequality between energy and load.
use Rattle.std.specs.Prelude.{◌≡◌, ℕ, ◌<◌, ℤ, ◌*ℤ◌, ◌-ℤ◌, Bool, List, length}
use Rattle.whole_algebra.specs.Sums.{int_sum_by}
use Rattle.whole_algebra.specs.Matrices.{at}
use Rattle.geo_model.specs.Candidate.{CandidateOf}
use Rattle.geo_model.specs.Limit.{SquareOf}
use Rattle.geo_model.specs.Network.{NetworkOf}
use Rattle.normal_matrix.specs.Entries.{coefficient, candidate_entry, normal_entry}

-- the entry of row i and column j of the load of weighted squares
abbrev pub load_entry : List SquareOf → ℕ → ℕ → ℤ
load_entry squares i j = int_sum_by (λ square. square.beta *ℤ (coefficient square.entries i *ℤ coefficient square.entries j)) squares

-- the entry of row i and column j of the form: the factor times the normal matrix of the plan, less the load
abbrev pub form_of : List CandidateOf → List Bool → ℤ → List SquareOf → ℕ → ℕ → ℤ
form_of candidates plan alpha squares i j = alpha *ℤ normal_entry candidates plan i j -ℤ load_entry squares i j

-- the entry of the normal matrix of the plan of all candidates
abbrev pub full_entry : List CandidateOf → ℕ → ℕ → ℤ
full_entry candidates i j = int_sum_by (λ candidate. candidate_entry candidate i j) candidates

-- the diagonal of the normal matrix of the plan of all candidates, an entry for each unknown
pub record IsFullDiagonal (network : NetworkOf) (diagonal : List ℤ) : Type 0 where
  pub places : length diagonal ≡ length network.unknowns
  pub exact : (i : ℕ) → i < length network.unknowns → at diagonal i ≡ full_entry network.candidates i i
