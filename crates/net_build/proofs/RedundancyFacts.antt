-- The limits of the candidates' redundancy: each is one of a network, none is one of a point, and there are as many as rows.
use Rattle.std.proofs.Common.{◌≡◌, ◌+◌, ◌*◌, ◌^◌, ◌<◌, ◌≤◌, ℕ, ℤ, pos, ◌+ℤ◌, ◌-ℤ◌, ◌*ℤ◌, ◌≤ℤ◌, false, List, [], ◌∷◌, length, refl, arith, length-append}
use Rattle.std.specs.Prelude.{All, sum_by, unsigned_abs}
use Rattle.std.specs.List.{enumerate_from, flat_map}
use Rattle.std.specs.Int.{int_max}
use Rattle.std.proofs.Math.Nat.{mul-le-mul, pow-le-pow_left}
use Rattle.std.proofs.lemmas.Bool.{false≢true}
use Rattle.std.proofs.lemmas.Int.{ints, clamps}
use Rattle.std.proofs.lemmas.List.Elements.{All-nil, All-cons}
use Rattle.std.proofs.lemmas.List.Sums.{sum_by-cons, sum_by-le}
use Rattle.whole_algebra.proofs.Normal.{ring, x0, x1, lit, ◌⊗◌, ◌⊕◌}
use Rattle.whole_algebra.proofs.Order.{mul_le_mul_right, mul_nonneg, square_nonneg}
use Rattle.geo_model.specs.Row.{Displaced, IsRow, IsSparse, RowOf, form_at, row_energy, total_size, unit_at}
use Rattle.geo_model.specs.Candidate.{CandidateOf}
use Rattle.geo_model.specs.Energy.{full_energy}
use Rattle.geo_model.specs.Limit.{IsLoad, SquareOf, is_point_limit}
use Rattle.geo_model.specs.Network.{IsLimit, NetworkOf}
use Rattle.geo_model.proofs.RowLoads.{IsOwnRow, AreOwnRows, row-load}
use Rattle.net_build.specs.Build.{limits_of_candidate, redundancy_limit, redundancy_limits}
use Rattle.net_build.proofs.ListFacts.{All-numbered, All-parts, length-numbered}

-- ---- each is a limit of a network, and none of a point

row-bounded : (network : NetworkOf) (q owner place : ℕ) (row : RowOf) → q ≤ 999 → owner < length network.candidates → IsOwnRow (length network.unknowns) network.candidates row
    → IsLimit network (redundancy_limit q owner (place, row))
unfolding redundancy_limit
row-bounded network q owner place row within inside is = record {
  bounded = row-load (length network.unknowns) network.candidates q row within is;
  owner = λ other e. let same : owner ≡ other = cc e in rw (← same) inside;
  unowned = λ point. absurd (false≢true point);
}

pub redundancies-bounded : (network : NetworkOf) (q : ℕ) → q ≤ 999 → All (AreOwnRows (length network.unknowns) network.candidates) network.candidates
    → All (IsLimit network) (redundancy_limits q network.candidates)
unfolding redundancy_limits limits_of_candidate
redundancies-bounded network q within all =
    All-parts (IsLimit network) (AreOwnRows (length network.unknowns) network.candidates) (limits_of_candidate q) (length network.candidates) 0 network.candidates
    (λ owner candidate inside rows. All-numbered (IsLimit network) (IsOwnRow (length network.unknowns) network.candidates) (redundancy_limit q owner) 0 candidate.rows
    (λ place row is. row-bounded network q owner place row within inside is) rows)
    (omega arith) all

row-unowned : (q owner : ℕ) (place : ℕ) (row : RowOf) → is_point_limit (redundancy_limit q owner (place, row)).kind ≡ false
unfolding redundancy_limit
row-unowned q owner place row = refl

anything : {X : Type 0} (xs : List X) → All (λ x. Unit {0}) xs
anything xs = λ k d inside. tt

pub redundancies-owned : (q : ℕ) (candidates : List CandidateOf) → All (λ limit. is_point_limit limit.kind ≡ false) (redundancy_limits q candidates)
unfolding redundancy_limits limits_of_candidate
redundancies-owned q candidates =
    All-parts (λ limit. is_point_limit limit.kind ≡ false) (λ candidate. Unit {0}) (limits_of_candidate q) (length candidates) 0 candidates
    (λ owner candidate inside rows. All-numbered (λ limit. is_point_limit limit.kind ≡ false) (λ row. Unit {0}) (redundancy_limit q owner) 0 candidate.rows
    (λ place row is. row-unowned q owner place row) (anything candidate.rows))
    (omega arith) (anything candidates)

-- ---- how many there are

candidates-count : (q n : ℕ) (candidates : List CandidateOf) → length (flat_map (limits_of_candidate q) (enumerate_from n candidates)) ≡ sum_by (λ candidate. length candidate.rows) candidates
unfolding limits_of_candidate
candidates-count q n [] = refl
candidates-count q n (candidate ∷ candidates) =
    let rest = flat_map (limits_of_candidate q) (enumerate_from (n + 1) candidates) in
    omega (
      arith,
      length-append (limits_of_candidate q (n, candidate)) rest,
      length-numbered (redundancy_limit q n) 0 candidate.rows,
      candidates-count q (n + 1) candidates,
      sum_by-cons (λ (c : CandidateOf). length c.rows) candidate candidates,
    )

pub redundancies-count : (q : ℕ) (candidates : List CandidateOf) → length (redundancy_limits q candidates) ≡ sum_by (λ candidate. length candidate.rows) candidates
unfolding redundancy_limits
redundancies-count q candidates = candidates-count q 0 candidates
