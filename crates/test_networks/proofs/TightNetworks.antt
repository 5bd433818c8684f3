-- The bounds of the networks of heights whose limits lie near what their levels give.
use Rattle.std.proofs.Common.{◌≡◌, ◌≢◌, ℕ, zero, suc, ◌+◌, ◌*◌, ◌^◌, ◌<◌, ◌≤◌, Bool, true, false, if◌then◌else◌, ◌==◌, List, [], ◌∷◌, length, Some, None, refl, sym, subst, arith, ℤ, pos, ◌+ℤ◌, ◌*ℤ◌, ◌≤ℤ◌, unsigned_abs}
use Rattle.std.specs.Prelude.{All}
use Rattle.std.specs.Int.{int_max}
use Rattle.std.proofs.lemmas.Int.{ints, clamps}
use Rattle.std.proofs.lemmas.List.Elements.{All-nil, All-cons}
use Rattle.geo_model.specs.Row.{IsRow, IsSparse, unit_at}
use Rattle.geo_model.specs.Candidate.{CandidateOf, IsCandidate}
use Rattle.geo_model.specs.Energy.{full_energy}
use Rattle.geo_model.specs.Limit.{SquareOf, LimitOf, IsLoad, load}
use Rattle.geo_model.specs.Network.{NetworkOf, IsNetwork, IsLimit, network_of_lists}
use Rattle.geo_model.proofs.StationLemmas.{no_stations}
use Rattle.geo_model.specs.declared.limit.LimitKind.TheVariants.{Added}
use Rattle.geo_model.specs.declared.network.Unknown.{Unknown}

-- ---- lists of one or two
one : {X : Type 0} (P : X → Type 0) (x : X) → P x → All P (x ∷ [])
one P x here = All-cons P x [] here (All-nil P)

two : {X : Type 0} (P : X → Type 0) (x y : X) → P x → P y → All P (x ∷ y ∷ [])
two P x y first second = All-cons P x (y ∷ []) first (one P y second)

three : {X : Type 0} (P : X → Type 0) (x y z : X) → P x → P y → P z → All P (x ∷ y ∷ z ∷ [])
three P x y z first second third = All-cons P x (y ∷ z ∷ []) first (two P y z second third)

-- ---- levels
abbrev pub level_to : ℕ → CandidateOf
level_to unknown = record { price = 5; rows = record { entries = (unknown, pos 10000) ∷ []; weight = pos 1000000 } ∷ [] }

sparse_one : (unknown : ℕ) (size : ℤ) → size ≢ pos 0 → IsSparse ((unknown, size) ∷ [])
sparse_one unknown size some = record {
  ascending = λ i j d lt inside. absurd (omega arith);
  nonzero = one (λ e. e.1 ≢ pos 0) (unknown, size) some;
}

row_to : (unknown : ℕ) → IsRow (record { entries = (unknown, pos 10000) ∷ []; weight = pos 1000000 })
row_to unknown = record {
  sparse = sparse_one unknown (pos 10000) (λ e. absurd (omega (arith, ints, e)));
  short = omega arith;
  each_size = one (λ e. unsigned_abs e.1 < 2 ^ 21) (unknown, pos 10000) (omega arith);
  total = omega arith;
  weight_low = omega (arith, ints);
  weight_high = omega (arith, ints);
}

candidate_to : (n unknown : ℕ) → unknown < n → IsCandidate n (level_to unknown)
candidate_to n unknown some = record {
  price = omega arith;
  rows = one IsRow (record { entries = (unknown, pos 10000) ∷ []; weight = pos 1000000 }) (row_to unknown);
  columns = one (λ row. All (λ entry. entry.0 < n) row.entries) (record { entries = (unknown, pos 10000) ∷ []; weight = pos 1000000 }) (one (λ entry. entry.0 < n) (unknown, pos 10000) some);
}

no_owner : (count owner : ℕ) → None ≡ Some owner → owner < count
no_owner count owner e = absurd (cc)

-- a network of these candidates and limits, told by equations
told : (unknowns : List Unknown) (candidates is_candidates : List CandidateOf) (limits is_limits : List LimitOf) → candidates ≡ is_candidates → limits ≡ is_limits
    → IsNetwork (network_of_lists unknowns is_candidates is_limits) → IsNetwork (network_of_lists unknowns candidates limits)
told unknowns candidates is_candidates limits is_limits e f bounds =
    subst (λ c. IsNetwork (network_of_lists unknowns c limits)) (sym e)
    (subst (λ l. IsNetwork (network_of_lists unknowns is_candidates l)) (sym f) bounds)

-- ---- one height and a limit that its level misses by 1
abbrev pub square : ℤ → ℤ → SquareOf
square beta coefficient = record { beta = beta; entries = (0, coefficient) ∷ [] }

above_greater : (x y z : ℤ) → z ≤ℤ y → z ≤ℤ int_max x y
above_greater x y z h = omega (arith, ints, clamps)

abbrev pub missed_limit : LimitOf
missed_limit = record { kind = Added 1; owner = None; alpha = pos 1000000; squares = square (pos (10 ^ 14)) (pos 1000) ∷ square (pos 1) (pos 1) ∷ [] }

missed_units : (b : Bool) →
    (pos (10 ^ 14) *ℤ ((pos 1000 *ℤ (if b then pos 1 else pos 0) +ℤ pos 0) *ℤ (pos 1000 *ℤ (if b then pos 1 else pos 0) +ℤ pos 0)) +ℤ (pos 1 *ℤ ((pos 1 *ℤ (if b then pos 1 else pos 0) +ℤ pos 0) *ℤ (pos 1 *ℤ (if b then pos 1 else pos 0) +ℤ pos 0)) +ℤ pos 0))
    ≤ℤ (pos (2 ^ 12) *ℤ (pos 1000000 *ℤ ((pos 1000000 *ℤ ((pos 10000 *ℤ (if b then pos 1 else pos 0) +ℤ pos 0) *ℤ (pos 10000 *ℤ (if b then pos 1 else pos 0) +ℤ pos 0)) +ℤ pos 0) +ℤ pos 0)))
missed_units true = omega (arith, ints)
missed_units false = omega (arith, ints)

missed_bounds : (network : NetworkOf) → 0 < length network.unknowns → network.candidates ≡ level_to 0 ∷ [] → IsLimit network missed_limit
missed_bounds network inside is = record {
  bounded = record {
    alpha_low = omega (arith, ints);
    alpha_high = omega (arith, ints);
    beta_low = two (λ square. pos 1 ≤ℤ square.beta) (square (pos (10 ^ 14)) (pos 1000)) (square (pos 1) (pos 1)) (omega (arith, ints)) (omega (arith, ints));
    beta_high = two (λ square. square.beta ≤ℤ pos (10 ^ 14)) (square (pos (10 ^ 14)) (pos 1000)) (square (pos 1) (pos 1)) (omega (arith, ints)) (omega (arith, ints));
    sparse = two (λ square. IsSparse square.entries) (square (pos (10 ^ 14)) (pos 1000)) (square (pos 1) (pos 1)) (sparse_one 0 (pos 1000) (λ e. absurd (omega (arith, ints, e)))) (sparse_one 0 (pos 1) (λ e. absurd (omega (arith, ints, e))));
    columns = two (λ square. All (λ entry. entry.0 < length network.unknowns) square.entries) (square (pos (10 ^ 14)) (pos 1000)) (square (pos 1) (pos 1)) (one (λ entry. entry.0 < length network.unknowns) (0, pos 1000) inside) (one (λ entry. entry.0 < length network.unknowns) (0, pos 1) inside);
    total = omega arith;
    diagonal = λ i lt. above_greater (pos (2 ^ 50)) (pos (2 ^ 12) *ℤ (pos 1000000 *ℤ full_energy network.candidates (unit_at i))) (load missed_limit.squares (unit_at i))
        (subst (λ (c : List CandidateOf). load missed_limit.squares (unit_at i) ≤ℤ (pos (2 ^ 12) *ℤ (pos 1000000 *ℤ full_energy c (unit_at i)))) (sym is) (missed_units (0 == i)));
  };
  owner = no_owner (length network.candidates);
  unowned = λ point. refl;
}

pub missed : (unknowns : List Unknown) (candidates : List CandidateOf) (limits : List LimitOf) → length unknowns ≡ 1 → candidates ≡ level_to 0 ∷ [] → limits ≡ missed_limit ∷ []
    → IsNetwork (network_of_lists unknowns candidates limits)
missed unknowns candidates limits tall is limited_by =
    let network : NetworkOf = network_of_lists unknowns (level_to 0 ∷ []) (missed_limit ∷ []) in
    told unknowns candidates network.candidates limits network.limits is limited_by (record {
      unknowns = omega arith;
      candidates = omega arith;
      rows = omega arith;
      limits = omega arith;
      each_candidate = one (IsCandidate (length unknowns)) (level_to 0) (candidate_to (length unknowns) 0 (omega arith));
      each_limit = one (IsLimit network) missed_limit (missed_bounds network (omega arith) refl);
      one_limit = λ i. omega arith;
      stations = no_stations _;
    })

-- ---- two heights at the very bound of a limit
abbrev pub square_of : ℤ → ℕ → ℤ → SquareOf
square_of beta unknown size = record { beta = beta; entries = (unknown, size) ∷ [] }

abbrev pub tight_limit : LimitOf
tight_limit = record {
  kind = Added 1;
  owner = None;
  alpha = pos 1000000;
  squares = square_of (pos (10 ^ 14)) 0 (pos 1000) ∷ square_of (pos (10 ^ 14)) 1 (pos 1000) ∷ square_of (pos 1) 1 (pos 1) ∷ [];
}

abbrev pub fine_levels : List CandidateOf
fine_levels = level_to 0 ∷ level_to 1 ∷ []

tight_diagonal : (i : ℕ) → i < 2 → load tight_limit.squares (unit_at i) ≤ℤ int_max (pos (2 ^ 50)) (pos (2 ^ 12) *ℤ (pos 1000000 *ℤ full_energy fine_levels (unit_at i)))
tight_diagonal zero lt = below (load tight_limit.squares (unit_at 0)) (pos (2 ^ 50)) (pos (2 ^ 12) *ℤ (pos 1000000 *ℤ full_energy fine_levels (unit_at 0))) (10 ^ 20) (4096 * 10 ^ 20) refl refl (omega arith)
  where
    below : (z x y : ℤ) (m n : ℕ) → z ≡ pos m → y ≡ pos n → m ≤ n → z ≤ℤ int_max x y
    below z x y m n e f h = omega (arith, ints, clamps)
tight_diagonal (suc zero) lt = below (load tight_limit.squares (unit_at 1)) (pos (2 ^ 50)) (pos (2 ^ 12) *ℤ (pos 1000000 *ℤ full_energy fine_levels (unit_at 1))) (10 ^ 20 + 1) (4096 * 10 ^ 20) refl refl (omega arith)
  where
    below : (z x y : ℤ) (m n : ℕ) → z ≡ pos m → y ≡ pos n → m ≤ n → z ≤ℤ int_max x y
    below z x y m n e f h = omega (arith, ints, clamps)
tight_diagonal (suc (suc i)) lt = absurd (omega arith)

tight_load : (n : ℕ) → n ≡ 2 → IsLoad n fine_levels (pos 1000000) tight_limit.squares
tight_load n e =
    let first = square_of (pos (10 ^ 14)) 0 (pos 1000) in
    let second = square_of (pos (10 ^ 14)) 1 (pos 1000) in
    let third = square_of (pos 1) 1 (pos 1) in
    record {
      alpha_low = omega (arith, ints);
      alpha_high = omega (arith, ints);
      beta_low = three (λ square. pos 1 ≤ℤ square.beta) first second third (omega (arith, ints)) (omega (arith, ints)) (omega (arith, ints));
      beta_high = three (λ square. square.beta ≤ℤ pos (10 ^ 14)) first second third (omega (arith, ints)) (omega (arith, ints)) (omega (arith, ints));
      sparse = three (λ square. IsSparse square.entries) first second third
          (sparse_one 0 (pos 1000) (λ z. absurd (omega (arith, ints, z)))) (sparse_one 1 (pos 1000) (λ z. absurd (omega (arith, ints, z)))) (sparse_one 1 (pos 1) (λ z. absurd (omega (arith, ints, z))));
      columns = three (λ square. All (λ entry. entry.0 < n) square.entries) first second third
          (one (λ entry. entry.0 < n) (0, pos 1000) (omega arith)) (one (λ entry. entry.0 < n) (1, pos 1000) (omega arith)) (one (λ entry. entry.0 < n) (1, pos 1) (omega arith));
      total = omega arith;
      diagonal = λ i lt. tight_diagonal i (omega arith);
    }

tight_bounds : (unknowns : List Unknown) → length unknowns ≡ 2 → IsNetwork (network_of_lists unknowns fine_levels (tight_limit ∷ []))
tight_bounds unknowns tall =
    let n = length unknowns in
    let network : NetworkOf = network_of_lists unknowns fine_levels (tight_limit ∷ []) in
    record {
      unknowns = omega arith;
      candidates = omega arith;
      rows = omega arith;
      limits = omega arith;
      each_candidate = two (IsCandidate n) (level_to 0) (level_to 1)
          (candidate_to n 0 (omega arith)) (candidate_to n 1 (omega arith));
      each_limit = one (IsLimit network) tight_limit (record { bounded = tight_load n tall; owner = no_owner (length network.candidates); unowned = λ point. refl });
      one_limit = λ i. omega arith;
      stations = no_stations _;
    }

pub two_heights : (unknowns : List Unknown) (candidates : List CandidateOf) (limits : List LimitOf) → length unknowns ≡ 2
    → candidates ≡ fine_levels → limits ≡ tight_limit ∷ []
    → IsNetwork (network_of_lists unknowns candidates limits)
two_heights unknowns candidates limits tall is limited_by = told unknowns candidates fine_levels limits (tight_limit ∷ []) is limited_by (tight_bounds unknowns tall)
