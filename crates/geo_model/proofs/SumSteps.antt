-- Sums one element further, as a loop forms them.
use Rattle.std.proofs.Common.{◌≡◌, ℕ, zero, suc, ◌+◌, ◌*◌, ◌^◌, ◌<◌, ◌≤◌, ℤ, pos, ◌+ℤ◌, ◌*ℤ◌, List, [], ◌∷◌, length, take, get_or, sym, ◌∙◌, ap, ap₂, inl, inr, refl, Some, Bool, true, if◌then◌else◌, subst, ◌≤ℤ◌, arith, w32, w64, FitsSigned}
use mir.Syntax.{w128}
use Rattle.std.specs.Prelude.{All, slice_get, sum_by, unsigned_abs}
use Rattle.std.proofs.lemmas.Int.{fits_signed_from_abs}
use Rattle.std.proofs.lemmas.Option.{get_or_from_slice_get}
use Rattle.std.proofs.lemmas.List.Sums.{sum_by-cons, sum_by-take-le}
use Rattle.whole_algebra.specs.Sums.{int_sum_by}
use Rattle.whole_algebra.specs.Matrices.{at}
use Rattle.whole_algebra.proofs.Ring.{add_assoc, add_comm}
use Rattle.whole_algebra.proofs.Order.{size-add, size-mul, square_is, le_refl, le_trans, add_nonneg, mul_nonneg, square_nonneg}
use Rattle.whole_algebra.proofs.SumLaws.{int_sum_by-more, sum_more}
use Rattle.std.proofs.lemmas.Bool.{cases_lt}
use Rattle.std.proofs.lemmas.Int.{ints}
use Rattle.std.proofs.Math.Nat.{mul-le-mul}
use Rattle.geo_model.specs.Row.{Displaced, Entries, RowOf, IsNarrow, IsRow, form_at, form_squared, row_energy, total_size}
use Rattle.geo_model.specs.Candidate.{CandidateOf, IsCandidate, candidate_energy}
use Rattle.geo_model.specs.Energy.{energy}
use Rattle.geo_model.specs.Limit.{SquareOf, LimitOf, IsLoad, load}
use Rattle.geo_model.specs.Network.{NetworkOf, IsNetwork, IsLimit}
use Rattle.geo_model.proofs.EnergyLemmas.{row_energy-nonneg}
use Rattle.std.proofs.lemmas.List.Elements.{All-head, All-tail}
use Rattle.geo_model.proofs.SizeLemmas.{form_at-size, light, row_energy-size, square-size, part_energy-size, load-size}

-- ---- forms
-- the coefficient of one of the entries is at most all sizes together
pub coefficient_size : (entries : Entries) (q : ℕ) (d : ℕ × ℤ) → q < length entries → unsigned_abs (get_or entries q d).1 ≤ total_size entries
coefficient_size [] q d inside = absurd (omega arith)
coefficient_size (e ∷ rest) zero d inside = omega (arith, sum_by-cons (λ (entry : ℕ × ℤ). unsigned_abs entry.1) e rest)
coefficient_size (e ∷ rest) (suc q) d inside =
    let later : q < length rest = omega arith in
    omega (arith, sum_by-cons (λ (entry : ℕ × ℤ). unsigned_abs entry.1) e rest, coefficient_size rest q d later)

-- one entry more of a form, and the numbers on the way
pub record IsFormStep (entries : Entries) (x : List ℤ) (q : ℕ) (sum c move : ℤ) : Type 0 where
  pub narrow : FitsSigned w64 c
  pub wide : FitsSigned w128 c
  pub move_narrow : FitsSigned w32 move
  pub move_wide : FitsSigned w128 move
  pub product : FitsSigned w128 (c *ℤ move)
  pub whole : FitsSigned w128 (sum +ℤ c *ℤ move)
  pub is : sum +ℤ c *ℤ move ≡ form_at (take (q + 1) entries) (at x)

pub form_step : (entries : Entries) (x : List ℤ) (q : ℕ) (sum move : ℤ) (d : ℕ × ℤ) → q < length entries → total_size entries < 2 ^ 45 → IsNarrow (at x)
    → sum ≡ form_at (take q entries) (at x) → move ≡ at x (get_or entries q d).0 → IsFormStep entries x q sum (get_or entries q d).1 move
form_step entries x q sum move d inside total narrow so_far is =
    let c = (get_or entries q d).1 in
    let c_size : unsigned_abs c < 2 ^ 45 = let h = coefficient_size entries q d inside in omega arith in
    let move_size : unsigned_abs move ≤ 2 ^ 15 = rw is (narrow (get_or entries q d).0) in
    let part = size-mul c move (2 ^ 45) (2 ^ 15) (omega arith) move_size in
    let before = form_at-size (take q entries) (at x) (2 ^ 15) narrow in
    let fewer = sum_by-take-le (λ (entry : ℕ × ℤ). unsigned_abs entry.1) entries q in
    let sum_size : unsigned_abs sum ≤ 2 ^ 60 = rw so_far (omega arith) in
    let both = size-add sum (c *ℤ move) in
    let step : form_at (take (q + 1) entries) (at x) ≡ form_at (take q entries) (at x) +ℤ c *ℤ at x (get_or entries q d).0 =
    int_sum_by-more (λ (entry : ℕ × ℤ). entry.1 *ℤ at x entry.0) entries q d inside in
    record {
      narrow = fits_signed_from_abs w64 c (omega arith);
      wide = fits_signed_from_abs w128 c (omega arith);
      move_narrow = fits_signed_from_abs w32 move (omega arith);
      move_wide = fits_signed_from_abs w128 move (omega arith);
      product = fits_signed_from_abs w128 (c *ℤ move) (omega arith);
      whole = fits_signed_from_abs w128 (sum +ℤ c *ℤ move) (omega arith);
      is = ap₂ (λ s t. s +ℤ c *ℤ t) so_far is ∙ sym step;
    }

-- the first entries of a form are no larger than all sizes together allow
pub form_take-size : (entries : Entries) (x : List ℤ) (q : ℕ) → IsNarrow (at x) → unsigned_abs (form_at (take q entries) (at x)) ≤ total_size entries * 2 ^ 15
form_take-size entries x q narrow =
    omega (arith, form_at-size (take q entries) (at x) (2 ^ 15) narrow, sum_by-take-le (λ (entry : ℕ × ℤ). unsigned_abs entry.1) entries q)

-- ---- rows and squares
-- the numbers on the way to a weighted square
pub record IsWeighted (weight form : ℤ) : Type 0 where
  pub form_fits : FitsSigned w128 form
  pub square : FitsSigned w128 (form *ℤ form)
  pub weight_fits : FitsSigned w128 weight
  pub whole : FitsSigned w128 (weight *ℤ (form *ℤ form))

-- a row's, as the code reads its parts
pub record IsRowStep (row : RowOf) (x : List ℤ) (weight form : ℤ) : Type 0 where
  pub numbers : IsWeighted weight form
  pub weight_narrow : FitsSigned w64 weight
  pub is : weight *ℤ (form *ℤ form) ≡ row_energy row (at x)
  pub size : unsigned_abs (weight *ℤ (form *ℤ form)) ≤ 1000000 * 2 ^ 76

pub row_step : (row : RowOf) (x : List ℤ) (entries : Entries) (weight form : ℤ) → IsRow row → IsNarrow (at x) → entries ≡ row.entries → weight ≡ row.weight → form ≡ form_at entries (at x)
    → unsigned_abs form ≤ total_size entries * 2 ^ 15 → IsRowStep row x weight form
row_step row x entries weight form bounds narrow listed heavy formed sized =
    let form_is : form ≡ form_at row.entries (at x) = formed ∙ ap (λ (l : Entries). form_at l (at x)) listed in
    let total : total_size entries ≡ total_size row.entries = ap total_size listed in
    let few = bounds.total in
    let form_size : unsigned_abs form ≤ 2 ^ 38 = omega arith in
    let small : unsigned_abs weight ≤ 1000000 = rw heavy (light row.weight bounds.weight_low bounds.weight_high) in
    let square = size-mul form form (2 ^ 38) (2 ^ 38) form_size form_size in
    let same : weight *ℤ (form *ℤ form) ≡ row_energy row (at x) = ap₂ (λ s t. s *ℤ t) heavy (ap₂ (λ s t. s *ℤ t) form_is form_is) in
    let size : unsigned_abs (weight *ℤ (form *ℤ form)) ≤ 1000000 * 2 ^ 76 = rw same (row_energy-size row (at x) bounds narrow) in
    record {
      numbers = record {
        form_fits = fits_signed_from_abs w128 form (omega arith);
        square = fits_signed_from_abs w128 (form *ℤ form) (omega arith);
        weight_fits = fits_signed_from_abs w128 weight (omega arith);
        whole = fits_signed_from_abs w128 (weight *ℤ (form *ℤ form)) (omega arith);
      };
      weight_narrow = fits_signed_from_abs w64 weight (omega arith);
      is = same;
      size = size;
    }

pub at_least_one : (b : ℤ) → pos 1 ≤ℤ b → 1 ≤ unsigned_abs b
at_least_one b h = omega (arith, ints)

pub few_digits : (b t : ℕ) → 1 ≤ b → b * (t * t) < 2 ^ 90 → t < 2 ^ 45
few_digits b t one small =
    elim (cases_lt t (2 ^ 45)) [
      | inl less ↦ less
      | inr more ↦ absurd (let p = mul-le-mul more more in let q = mul-le-mul one p in omega arith)
    ]

-- the sizes of the coefficients of a square are small, all together
pub square-total : (square : SquareOf) → pos 1 ≤ℤ square.beta → unsigned_abs square.beta * total_size square.entries ^ 2 < 2 ^ 90 → total_size square.entries < 2 ^ 45
square-total square one small =
    let plain : unsigned_abs square.beta * (total_size square.entries * total_size square.entries) < 2 ^ 90 = subst (λ q. unsigned_abs square.beta * q < 2 ^ 90) (square_is (total_size square.entries)) small in
    few_digits (unsigned_abs square.beta) (total_size square.entries) (at_least_one square.beta one) plain

-- a square's, as the code reads its parts
pub record IsSquareStep (square : SquareOf) (x : List ℤ) (weight form : ℤ) : Type 0 where
  pub numbers : IsWeighted weight form
  pub is : weight *ℤ (form *ℤ form) ≡ square.beta *ℤ form_squared square.entries (at x)
  pub size : unsigned_abs (weight *ℤ (form *ℤ form)) ≤ (unsigned_abs square.beta * total_size square.entries ^ 2) * 2 ^ 30

pub square_step : (square : SquareOf) (x : List ℤ) (entries : Entries) (weight form : ℤ) → pos 1 ≤ℤ square.beta → unsigned_abs square.beta * total_size square.entries ^ 2 < 2 ^ 90 → IsNarrow (at x)
    → entries ≡ square.entries → weight ≡ square.beta → FitsSigned w128 weight → form ≡ form_at entries (at x) → unsigned_abs form ≤ total_size entries * 2 ^ 15 → IsSquareStep square x weight form
square_step square x entries weight form one small narrow listed heavy fits formed sized =
    let form_is : form ≡ form_at square.entries (at x) = formed ∙ ap (λ (l : Entries). form_at l (at x)) listed in
    let total : total_size entries ≡ total_size square.entries = ap total_size listed in
    let few = square-total square one small in
    let form_size : unsigned_abs form ≤ 2 ^ 60 = omega arith in
    let squared = size-mul form form (2 ^ 60) (2 ^ 60) form_size form_size in
    let same : weight *ℤ (form *ℤ form) ≡ square.beta *ℤ form_squared square.entries (at x) = ap₂ (λ s t. s *ℤ t) heavy (ap₂ (λ s t. s *ℤ t) form_is form_is) in
    let size : unsigned_abs (weight *ℤ (form *ℤ form)) ≤ (unsigned_abs square.beta * total_size square.entries ^ 2) * 2 ^ 30 = rw same (square-size square (at x) narrow) in
    record {
      numbers = record {
        form_fits = fits_signed_from_abs w128 form (omega arith);
        square = fits_signed_from_abs w128 (form *ℤ form) (omega arith);
        weight_fits = fits;
        whole = fits_signed_from_abs w128 (weight *ℤ (form *ℤ form)) (omega arith);
      };
      is = same;
      size = size;
    }

-- ---- energies
-- the first rows add no negative energy
pub rows_take-nonneg : (k : ℕ) (rows : List RowOf) (x : Displaced) → All IsRow rows → pos 0 ≤ℤ int_sum_by (λ row. row_energy row x) (take k rows)
rows_take-nonneg zero [] x all = le_refl (pos 0)
rows_take-nonneg zero (row ∷ rest) x all = le_refl (pos 0)
rows_take-nonneg (suc k) [] x all = le_refl (pos 0)
rows_take-nonneg (suc k) (row ∷ rest) x all =
    add_nonneg (row_energy row x) (int_sum_by (λ r. row_energy r x) (take k rest))
    (row_energy-nonneg row x (All-head IsRow row rest all))
    (rows_take-nonneg k rest x (All-tail IsRow row rest all))

-- one candidate more
pub energy_more : (k : ℕ) (candidates : List CandidateOf) (plan : List Bool) (x : Displaced) (candidate : CandidateOf) (chosen : Bool) → k < length candidates → candidate ≡ get_or candidates k candidate
    → slice_get plan k ≡ Some chosen → energy (take (suc k) candidates) plan x ≡ energy (take k candidates) plan x +ℤ (if chosen then candidate_energy candidate x else pos 0)
energy_more k [] plan x candidate chosen inside here flag = absurd (omega arith)
energy_more k (first ∷ rest) [] x candidate chosen inside here flag = absurd (cc)
energy_more zero (first ∷ rest) (b ∷ plan) x candidate chosen inside here flag = first_energy first candidate b chosen rest plan x here flag
  where
    nothing : (candidates : List CandidateOf) (p : List Bool) → energy (take 0 candidates) p x ≡ pos 0
    nothing [] p = refl
    nothing (c ∷ candidates) p = refl

    first_energy : (first candidate : CandidateOf) (b chosen : Bool) (rest : List CandidateOf) (plan : List Bool) (x : Displaced) → candidate ≡ first → Some b ≡ Some chosen
        → energy (take 1 (first ∷ rest)) (b ∷ plan) x ≡ pos 0 +ℤ (if chosen then candidate_energy candidate x else pos 0)
    first_energy first candidate b chosen rest plan x here flag =
        let same : b ≡ chosen = cc in
        add_comm (if b then candidate_energy first x else pos 0) (pos 0) ∙ ap₂ (λ (t : Bool) (c : CandidateOf). pos 0 +ℤ (if t then candidate_energy c x else pos 0)) same (sym here)
energy_more (suc k) (first ∷ rest) (b ∷ plan) x candidate chosen inside here flag =
    let later : k < length rest = omega arith in
    ap (λ z. (if b then candidate_energy first x else pos 0) +ℤ z) (energy_more k rest plan x candidate chosen later here flag)
    ∙ sym (add_assoc (if b then candidate_energy first x else pos 0) (energy (take k rest) plan x) (if chosen then candidate_energy candidate x else pos 0))

-- the energy under the first candidates of a plan is small
energy_take-size : (k n : ℕ) (candidates : List CandidateOf) (plan : List Bool) (x : Displaced) → All (IsCandidate n) candidates → IsNarrow x
    → unsigned_abs (energy (take k candidates) plan x) ≤ sum_by (λ candidate. length candidate.rows) candidates * (1000000 * 2 ^ 76)
energy_take-size zero n [] plan x all narrow = omega arith
energy_take-size zero n (candidate ∷ rest) plan x all narrow = omega arith
energy_take-size (suc k) n [] plan x all narrow = omega arith
energy_take-size (suc k) n (candidate ∷ rest) [] x all narrow = omega arith
energy_take-size (suc k) n (candidate ∷ rest) (chosen ∷ plan) x all narrow =
    let first = part_energy-size chosen n candidate x (All-head (IsCandidate n) candidate rest all) narrow in
    let later = energy_take-size k n rest plan x (All-tail (IsCandidate n) candidate rest all) narrow in
    let both = size-add (if chosen then candidate_energy candidate x else pos 0) (energy (take k rest) plan x) in
    let total = sum_by-cons (λ (c : CandidateOf). length c.rows) candidate rest in
    omega arith

-- what the first candidates of a network's plan give is below 2 ^ 105
pub energy_take-small : (k n : ℕ) (candidates : List CandidateOf) (plan : List Bool) (x : Displaced) → All (IsCandidate n) candidates → sum_by (λ candidate. length candidate.rows) candidates ≤ 512 → IsNarrow x
    → unsigned_abs (energy (take k candidates) plan x) < 2 ^ 105
energy_take-small k n candidates plan x all few narrow = let h = energy_take-size k n candidates plan x all narrow in omega arith

-- what one candidate gives is below 2 ^ 105
pub candidate_energy-small : (n : ℕ) (candidate : CandidateOf) (x : Displaced) → IsCandidate n candidate → length candidate.rows ≤ 512 → IsNarrow x → unsigned_abs (candidate_energy candidate x) < 2 ^ 105
candidate_energy-small n candidate x bounds few narrow = let h = part_energy-size true n candidate x bounds narrow in omega arith

-- a candidate has no more rows than all together
pub rows-few : (candidates : List CandidateOf) (k : ℕ) (d : CandidateOf) → k < length candidates → length (get_or candidates k d).rows ≤ sum_by (λ candidate. length candidate.rows) candidates
rows-few [] k d inside = absurd (omega arith)
rows-few (candidate ∷ rest) zero d inside = omega (arith, sum_by-cons (λ (c : CandidateOf). length c.rows) candidate rest)
rows-few (candidate ∷ rest) (suc k) d inside =
    let later : k < length rest = omega arith in
    omega (arith, sum_by-cons (λ (c : CandidateOf). length c.rows) candidate rest, rows-few rest k d later)

-- a candidate of a network, as code reads it
pub record IsOneOf (n : ℕ) (candidate : CandidateOf) : Type 0 where
  pub bounds : IsCandidate n candidate
  pub few : length candidate.rows ≤ 512

pub candidate_of : (network : NetworkOf) (candidates : List CandidateOf) (k n : ℕ) (candidate : CandidateOf) → IsNetwork network → candidates ≡ network.candidates → k < length candidates
    → candidate ≡ get_or candidates k candidate → n ≡ length network.unknowns → IsOneOf n candidate
candidate_of network candidates k n candidate kept are inside here size =
    let all : All (IsCandidate n) candidates = rw size (rw are kept.each_candidate) in
    let few : sum_by (λ (c : CandidateOf). length c.rows) candidates ≤ 512 = rw are kept.rows in
    let rows = rows-few candidates k candidate inside in
    record {
      bounds = subst (λ (c : CandidateOf). IsCandidate n c) (sym here) (all k candidate inside);
      few = subst (λ (c : CandidateOf). length c.rows ≤ 512) (sym here) (omega arith);
    }

-- ---- loads
-- no load of the first squares is negative
pub load_take-nonneg : (k : ℕ) (squares : List SquareOf) (x : Displaced) → All (λ square. pos 1 ≤ℤ square.beta) squares → pos 0 ≤ℤ load (take k squares) x
load_take-nonneg zero [] x low = le_refl (pos 0)
load_take-nonneg zero (square ∷ rest) x low = le_refl (pos 0)
load_take-nonneg (suc k) [] x low = le_refl (pos 0)
load_take-nonneg (suc k) (square ∷ rest) x low =
    let one : pos 1 ≤ℤ square.beta = All-head (λ (s : SquareOf). pos 1 ≤ℤ s.beta) square rest low in
    add_nonneg (square.beta *ℤ form_squared square.entries x) (load (take k rest) x)
    (mul_nonneg square.beta (form_squared square.entries x) (le_trans (pos 0) (pos 1) square.beta (omega (arith, ints)) one) (square_nonneg (form_at square.entries x)))
    (load_take-nonneg k rest x (All-tail (λ (s : SquareOf). pos 1 ≤ℤ s.beta) square rest low))

-- the load of the first squares of a limit is below 2 ^ 120
pub load_take-small : (k n : ℕ) (candidates : List CandidateOf) (alpha : ℤ) (squares : List SquareOf) (x : Displaced) → IsLoad n candidates alpha squares → IsNarrow x → unsigned_abs (load (take k squares) x) < 2 ^ 120
load_take-small k n candidates alpha squares x bounds narrow =
    let size = load-size (take k squares) x narrow in
    let fewer = sum_by-take-le (λ (square : SquareOf). unsigned_abs square.beta * total_size square.entries ^ 2) squares k in
    let total = bounds.total in
    omega arith

-- one square of a limit is no larger than all together allow
pub square_of-total : (squares : List SquareOf) (k : ℕ) (d : SquareOf) → k < length squares
    → unsigned_abs (get_or squares k d).beta * total_size (get_or squares k d).entries ^ 2 ≤ sum_by (λ square. unsigned_abs square.beta * total_size square.entries ^ 2) squares
square_of-total [] k d inside = absurd (omega arith)
square_of-total (square ∷ rest) zero d inside = omega (arith, sum_by-cons (λ (s : SquareOf). unsigned_abs s.beta * total_size s.entries ^ 2) square rest)
square_of-total (square ∷ rest) (suc k) d inside =
    let later : k < length rest = omega arith in
    omega (arith, sum_by-cons (λ (s : SquareOf). unsigned_abs s.beta * total_size s.entries ^ 2) square rest, square_of-total rest k d later)

-- one square more of a load, and the numbers on the way
pub record IsLoadStep (squares : List SquareOf) (x : Displaced) (k : ℕ) (sum part : ℤ) : Type 0 where
  pub whole : FitsSigned w128 (sum +ℤ part)
  pub is : sum +ℤ part ≡ load (take (k + 1) squares) x

pub load_step : (k n : ℕ) (candidates : List CandidateOf) (alpha : ℤ) (squares : List SquareOf) (x : Displaced) (square : SquareOf) (sum part : ℤ) → IsLoad n candidates alpha squares → IsNarrow x → k < length squares
    → square ≡ get_or squares k square → sum ≡ load (take k squares) x → part ≡ square.beta *ℤ form_squared square.entries x → IsLoadStep squares x k sum part
load_step k n candidates alpha squares x square sum part bounds narrow inside here so_far this =
    let more = sum_more (λ (s : SquareOf). s.beta *ℤ form_squared s.entries x) squares k square sum part inside here so_far this in
    let small = load_take-small (k + 1) n candidates alpha squares x bounds narrow in
    let size : unsigned_abs (sum +ℤ part) < 2 ^ 120 = rw more small in
    record { whole = fits_signed_from_abs w128 (sum +ℤ part) (omega arith); is = more }

-- a limit of a network, as code reads it by its number
pub limit_of : (network : NetworkOf) (limits : List LimitOf) (k : ℕ) (limit : LimitOf) (squares : List SquareOf) → IsNetwork network → limits ≡ network.limits → k < length network.limits
    → limit ≡ get_or limits k limit → squares ≡ limit.squares → IsLoad (length network.unknowns) network.candidates limit.alpha squares
limit_of network limits k limit squares kept are inside here listed =
    let all : All (IsLimit network) limits = rw are kept.each_limit in
    let one : IsLimit network (get_or limits k limit) = all k limit (rw are inside) in
    let mine : IsLimit network limit = subst (λ (l : LimitOf). IsLimit network l) (sym here) one in
    rw listed mine.bounded

-- the limit of a number is the one that code reads
pub same_limit : (network : NetworkOf) (limits : List LimitOf) (k : ℕ) (limit l : LimitOf) → limits ≡ network.limits → limit ≡ get_or limits k limit → slice_get network.limits k ≡ Some l → limit ≡ l
same_limit network limits k limit l are here found =
    here ∙ ap (λ (ls : List LimitOf). get_or ls k limit) are ∙ get_or_from_slice_get network.limits k l limit found
