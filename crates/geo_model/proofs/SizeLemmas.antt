-- How large forms, energies and loads are at a displacement.
use Rattle.std.proofs.Common.{◌≡◌, ◌==◌, ℕ, ◌+◌, ◌*◌, ◌^◌, ◌<◌, ◌≤◌, ℤ, pos, ◌*ℤ◌, ◌≤ℤ◌, if◌then◌else◌, Bool, true, false, List, [], ◌∷◌, length, sym, ◌∙◌, ap, arith, add-mul, mul_assoc, mul_right_comm}
use Rattle.std.specs.Prelude.{All, sum_by, unsigned_abs}
use Rattle.std.proofs.lemmas.Int.{ints}
use Rattle.std.proofs.lemmas.List.Elements.{All-head, All-tail}
use Rattle.std.proofs.lemmas.List.Sums.{sum_by-cons}
use Rattle.whole_algebra.specs.Sums.{int_sum_by}
use Rattle.whole_algebra.proofs.Order.{size-add, size-mul, square_is}
use Rattle.geo_model.specs.Row.{Displaced, Entries, RowOf, IsNarrow, IsRow, form_at, form_squared, row_energy, total_size, unit_at}
use Rattle.geo_model.specs.Candidate.{CandidateOf, IsCandidate, candidate_energy}
use Rattle.geo_model.specs.Energy.{energy}
use Rattle.geo_model.specs.Limit.{SquareOf, IsLoad, load}
use Rattle.geo_model.specs.Network.{NetworkOf, IsNetwork}

-- ---- forms
unit_part : (t : Bool) → unsigned_abs (if t then pos 1 else pos 0) ≤ 1
unit_part true = omega arith
unit_part false = omega arith

pub unit_at-size : (i j : ℕ) → unsigned_abs (unit_at i j) ≤ 1
unit_at-size i j = unit_part (j == i)

same_le : (n : ℕ) → n ≤ n
same_le n = omega arith

-- a form is at most the sizes of its coefficients times the largest entry of the displacement
pub form_at-size : (entries : Entries) (x : Displaced) (b : ℕ) → ((i : ℕ) → unsigned_abs (x i) ≤ b) → unsigned_abs (form_at entries x) ≤ total_size entries * b
form_at-size [] x b small = omega arith
form_at-size (entry ∷ entries) x b small =
    let first = size-mul entry.1 (x entry.0) (unsigned_abs entry.1) b (same_le (unsigned_abs entry.1)) (small entry.0) in
    let both = size-add (entry.1 *ℤ x entry.0) (form_at entries x) in
    let total : total_size (entry ∷ entries) * b ≡ unsigned_abs entry.1 * b + total_size entries * b =
    ap (λ t. t * b) (sum_by-cons (λ (e : ℕ × ℤ). unsigned_abs e.1) entry entries) ∙ add-mul (unsigned_abs entry.1) (total_size entries) b in
    omega (arith, form_at-size entries x b small)

-- ---- energies
pub row-form_small : (row : RowOf) (x : Displaced) → IsRow row → IsNarrow x → unsigned_abs (form_at row.entries x) < 2 ^ 38
row-form_small row x bounds narrow =
    let size = form_at-size row.entries x (2 ^ 15) narrow in
    let total = bounds.total in
    omega arith

-- a weight or a factor is small
pub light : (w : ℤ) → pos 1 ≤ℤ w → w ≤ℤ pos 1000000 → unsigned_abs w ≤ 1000000
light w low high = omega (arith, ints)

pub row_energy-size : (row : RowOf) (x : Displaced) → IsRow row → IsNarrow x → unsigned_abs (row_energy row x) ≤ 1000000 * 2 ^ 76
row_energy-size row x bounds narrow =
    let f = row-form_small row x bounds narrow in
    let square = size-mul (form_at row.entries x) (form_at row.entries x) (2 ^ 38) (2 ^ 38) (omega arith) (omega arith) in
    let product = size-mul row.weight (form_squared row.entries x) 1000000 (2 ^ 76) (light row.weight bounds.weight_low bounds.weight_high) (omega arith) in
    omega arith

pub row_energy-small : (row : RowOf) (x : Displaced) → IsRow row → IsNarrow x → unsigned_abs (row_energy row x) < 2 ^ 96
row_energy-small row x bounds narrow = let h = row_energy-size row x bounds narrow in omega arith

rows_energy-size : (rows : List RowOf) (x : Displaced) → All IsRow rows → IsNarrow x → unsigned_abs (int_sum_by (λ row. row_energy row x) rows) ≤ length rows * (1000000 * 2 ^ 76)
rows_energy-size [] x all narrow = omega arith
rows_energy-size (row ∷ rows) x all narrow =
    let first = row_energy-size row x (All-head IsRow row rows all) narrow in
    let later = rows_energy-size rows x (All-tail IsRow row rows all) narrow in
    let both = size-add (row_energy row x) (int_sum_by (λ r. row_energy r x) rows) in
    omega arith

pub part_energy-size : (chosen : Bool) (n : ℕ) (candidate : CandidateOf) (x : Displaced) → IsCandidate n candidate → IsNarrow x
    → unsigned_abs (if chosen then candidate_energy candidate x else pos 0) ≤ length candidate.rows * (1000000 * 2 ^ 76)
part_energy-size true n candidate x bounds narrow = rows_energy-size candidate.rows x bounds.rows narrow
part_energy-size false n candidate x bounds narrow = omega arith

energy-size : (n : ℕ) (candidates : List CandidateOf) (plan : List Bool) (x : Displaced) → All (IsCandidate n) candidates → IsNarrow x
    → unsigned_abs (energy candidates plan x) ≤ sum_by (λ candidate. length candidate.rows) candidates * (1000000 * 2 ^ 76)
energy-size n [] plan x all narrow = omega arith
energy-size n (candidate ∷ rest) [] x all narrow = omega arith
energy-size n (candidate ∷ rest) (chosen ∷ plan) x all narrow =
    let first = part_energy-size chosen n candidate x (All-head (IsCandidate n) candidate rest all) narrow in
    let later = energy-size n rest plan x (All-tail (IsCandidate n) candidate rest all) narrow in
    let both = size-add (if chosen then candidate_energy candidate x else pos 0) (energy rest plan x) in
    let total = sum_by-cons (λ (c : CandidateOf). length c.rows) candidate rest in
    omega arith

plan_energy-size : (network : NetworkOf) (plan : List Bool) (x : Displaced) → IsNetwork network → IsNarrow x → unsigned_abs (energy network.candidates plan x) ≤ 512 * (1000000 * 2 ^ 76)
plan_energy-size network plan x bounds narrow =
    let size = energy-size (length network.unknowns) network.candidates plan x bounds.each_candidate narrow in
    let few = bounds.rows in
    omega arith

pub energy-small : (network : NetworkOf) (plan : List Bool) (x : Displaced) → IsNetwork network → IsNarrow x → unsigned_abs (energy network.candidates plan x) < 2 ^ 105
energy-small network plan x bounds narrow = let h = plan_energy-size network plan x bounds narrow in omega arith

pub scaled_energy-small : (network : NetworkOf) (plan : List Bool) (alpha : ℤ) (x : Displaced) → IsNetwork network → IsNarrow x → pos 1 ≤ℤ alpha → alpha ≤ℤ pos 1000000
    → unsigned_abs (alpha *ℤ energy network.candidates plan x) < 2 ^ 125
scaled_energy-small network plan alpha x bounds narrow low high =
    let h = size-mul alpha (energy network.candidates plan x) 1000000 (512 * (1000000 * 2 ^ 76)) (light alpha low high) (plan_energy-size network plan x bounds narrow) in
    omega arith

-- ---- loads
gather : (b t : ℕ) → b * ((t * 2 ^ 15) * (t * 2 ^ 15)) ≡ (b * t ^ 2) * 2 ^ 30
gather b t =
    ap (λ s. b * s) (sym (mul_assoc (t * 2 ^ 15) t (2 ^ 15)) ∙ ap (λ s. s * 2 ^ 15) (mul_right_comm t (2 ^ 15) t) ∙ mul_assoc (t * t) (2 ^ 15) (2 ^ 15))
    ∙ sym (mul_assoc b (t * t) (2 ^ 30))
    ∙ ap (λ s. (b * s) * 2 ^ 30) (sym (square_is t))

pub square-size : (square : SquareOf) (x : Displaced) → IsNarrow x → unsigned_abs (square.beta *ℤ form_squared square.entries x) ≤ (unsigned_abs square.beta * total_size square.entries ^ 2) * 2 ^ 30
square-size square x narrow =
    let t = total_size square.entries in
    let f = form_at-size square.entries x (2 ^ 15) narrow in
    let squared = size-mul (form_at square.entries x) (form_at square.entries x) (t * 2 ^ 15) (t * 2 ^ 15) f f in
    rw (← gather (unsigned_abs square.beta) t)
    (size-mul square.beta (form_squared square.entries x) (unsigned_abs square.beta) ((t * 2 ^ 15) * (t * 2 ^ 15)) (same_le (unsigned_abs square.beta)) squared)

pub load-size : (squares : List SquareOf) (x : Displaced) → IsNarrow x → unsigned_abs (load squares x) ≤ sum_by (λ square. unsigned_abs square.beta * total_size square.entries ^ 2) squares * 2 ^ 30
load-size [] x narrow = omega arith
load-size (square ∷ squares) x narrow =
    let first = square-size square x narrow in
    let later = load-size squares x narrow in
    let both = size-add (square.beta *ℤ form_squared square.entries x) (load squares x) in
    let total = sum_by-cons (λ (s : SquareOf). unsigned_abs s.beta * total_size s.entries ^ 2) square squares in
    omega arith

pub load-small : (n : ℕ) (candidates : List CandidateOf) (alpha : ℤ) (squares : List SquareOf) (x : Displaced) → IsLoad n candidates alpha squares → IsNarrow x
    → unsigned_abs (load squares x) < 2 ^ 120
load-small n candidates alpha squares x bounds narrow =
    let size = load-size squares x narrow in
    let total = bounds.total in
    omega arith
