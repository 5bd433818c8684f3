-- Sizes and steps of the sums that make the form of a limit.
use Rattle.std.proofs.Common.{◌≡◌, ℕ, ◌+◌, ◌*◌, ◌^◌, ◌<◌, ◌≤◌, Bool, List, [], ◌∷◌, length, take, get_or, refl, sym, ◌∙◌, ap, ap₂, subst, arith, w64, FitsSigned, ℤ, pos, ◌+ℤ◌, ◌-ℤ◌, ◌*ℤ◌, ◌≤ℤ◌}
use mir.Syntax.{w128}
use Rattle.std.specs.Prelude.{sum_by, unsigned_abs}
use Rattle.std.proofs.lemmas.Int.{ints, fits_signed_from_abs}
use Rattle.std.proofs.lemmas.List.Sums.{sum_by_more}
use Rattle.std.proofs.Math.Nat.{mul-le-mul}
use Rattle.whole_algebra.proofs.Normal.{ring, x0, lit, ◌⊕◌}
use Rattle.geo_model.specs.Row.{total_size}
use Rattle.geo_model.specs.Limit.{SquareOf, IsLoad}
use Rattle.geo_model.specs.Network.{NetworkOf, IsNetwork}
use Rattle.geo_model.proofs.SumSteps.{at_least_one, few_digits}
use Rattle.geo_model.proofs.SizeLemmas.{light}
use Rattle.normal_matrix.specs.Entries.{coefficient, normal_entry}
use Rattle.whole_algebra.proofs.Order.{size-add, size-mul, square_is}
use Rattle.whole_algebra.proofs.SumLaws.{int_sum_by-more}
use Rattle.normal_matrix.proofs.PlanSteps.{normal_entry-size}
use Rattle.limit_forms.specs.Form.{load_entry}

-- ---- one weighted product of two coefficients
-- the numbers on the way to a weighted product
pub record IsProduct (b f s : ℤ) (t : ℕ) : Type 0 where
  pub first_narrow : FitsSigned w64 f
  pub second_narrow : FitsSigned w64 s
  pub first : FitsSigned w128 f
  pub second : FitsSigned w128 s
  pub pair : FitsSigned w128 (f *ℤ s)
  pub whole : FitsSigned w128 (b *ℤ (f *ℤ s))
  pub size : unsigned_abs (b *ℤ (f *ℤ s)) ≤ unsigned_abs b * t ^ 2

pub weighted_product : (b f s : ℤ) (t : ℕ) → pos 1 ≤ℤ b → unsigned_abs f ≤ t → unsigned_abs s ≤ t → unsigned_abs b * t ^ 2 < 2 ^ 90 → IsProduct b f s t
weighted_product b f s t one first second small =
    let e = square_is t in
    let plain : unsigned_abs b * (t * t) < 2 ^ 90 = subst (λ q. unsigned_abs b * q < 2 ^ 90) e small in
    let positive = at_least_one b one in
    let few = few_digits (unsigned_abs b) t positive plain in
    let pair = size-mul f s t t first second in
    let lone = mul-le-mul positive (le_self (t * t)) in
    let whole = size-mul b (f *ℤ s) (unsigned_abs b) (t * t) (le_self (unsigned_abs b)) pair in
    let size : unsigned_abs (b *ℤ (f *ℤ s)) ≤ unsigned_abs b * t ^ 2 = subst (λ q. unsigned_abs (b *ℤ (f *ℤ s)) ≤ unsigned_abs b * q) (sym e) whole in
    let lower = mul-le-mul positive (le_self (unsigned_abs (f *ℤ s))) in
    record {
      first_narrow = fits_signed_from_abs w64 f (omega arith);
      second_narrow = fits_signed_from_abs w64 s (omega arith);
      first = fits_signed_from_abs w128 f (omega arith);
      second = fits_signed_from_abs w128 s (omega arith);
      pair = fits_signed_from_abs w128 (f *ℤ s) (omega arith);
      whole = fits_signed_from_abs w128 (b *ℤ (f *ℤ s)) (omega arith);
      size = size;
    }
  where
    le_self : (a : ℕ) → a ≤ a
    le_self a = omega arith

-- ---- sums of them
pub load_step : (squares : List SquareOf) (k i j : ℕ) (square : SquareOf) (sum part : ℤ) → k < length squares → square ≡ get_or squares k square
    → sum ≡ load_entry (take k squares) i j → part ≡ load_entry (square ∷ []) i j → sum +ℤ part ≡ load_entry (take (k + 1) squares) i j
load_step squares k i j square sum part inside is so_far this =
    let term : SquareOf → ℤ = λ q. q.beta *ℤ (coefficient q.entries i *ℤ coefficient q.entries j) in
    let more = int_sum_by-more term squares k square inside in
    let same : term (get_or squares k square) ≡ term square = ap term (sym is) in
    let alone : load_entry (square ∷ []) i j ≡ term square = ring (x0 ⊕ lit 0) x0 (term square ∷ []) refl in
    sym (more ∙ ap₂ (λ s t. s +ℤ t) (sym so_far) (same ∙ sym alone ∙ sym this))

pub load_size_step : (squares : List SquareOf) (k : ℕ) (square : SquareOf) (sum part : ℤ) → k < length squares → square ≡ get_or squares k square
    → unsigned_abs sum ≤ sum_by (λ square. unsigned_abs square.beta * total_size square.entries ^ 2) (take k squares)
    → unsigned_abs part ≤ unsigned_abs square.beta * total_size square.entries ^ 2
    → unsigned_abs (sum +ℤ part) ≤ sum_by (λ square. unsigned_abs square.beta * total_size square.entries ^ 2) (take (k + 1) squares)
load_size_step squares k square sum part inside is so_far this =
    let term : SquareOf → ℕ = λ q. unsigned_abs q.beta * total_size q.entries ^ 2 in
    let more = sum_by_more term squares k square inside in
    let same : term (get_or squares k square) ≡ term square = ap term (sym is) in
    let both = size-add sum part in
    joined (unsigned_abs (sum +ℤ part)) (unsigned_abs sum) (unsigned_abs part) (sum_by term (take k squares)) (sum_by term (take (k + 1) squares)) (term (get_or squares k square)) (term square) both so_far this more same
  where
    joined : (z a b m n g t : ℕ) → z ≤ a + b → a ≤ m → b ≤ t → n ≡ m + g → g ≡ t → z ≤ n
    joined z a b m n g t h k l e f = omega arith

-- ---- the form
pub record IsEntry (alpha entry taken : ℤ) : Type 0 where
  pub factor_narrow : FitsSigned w64 alpha
  pub factor : FitsSigned w128 alpha
  pub number : FitsSigned w128 entry
  pub product : FitsSigned w128 (alpha *ℤ entry)
  pub load : FitsSigned w128 taken
  pub difference : FitsSigned w128 (alpha *ℤ entry -ℤ taken)

size-sub : (a b : ℤ) → unsigned_abs (a -ℤ b) ≤ unsigned_abs a + unsigned_abs b
size-sub a b = omega (arith, ints)

pub entry_fits : (network : NetworkOf) (plan : List Bool) (alpha load number : ℤ) (squares : List SquareOf) (i j : ℕ) → IsNetwork network → IsLoad (length network.unknowns) network.candidates alpha squares
    → number ≡ normal_entry network.candidates plan i j → unsigned_abs load < 2 ^ 90 → IsEntry alpha number load
entry_fits network plan alpha load number squares i j bounds limit is small =
    let size = normal_entry-size (length network.unknowns) network.candidates plan i j bounds.each_candidate in
    let few = bounds.rows in
    let mine : unsigned_abs number ≤ 512 * 2 ^ 66 = rw is (omega arith) in
    let factor = light alpha limit.alpha_low limit.alpha_high in
    let product = size-mul alpha number 1000000 (512 * 2 ^ 66) factor mine in
    let both = size-sub (alpha *ℤ number) load in
    record {
      factor_narrow = fits_signed_from_abs w64 alpha (omega arith);
      factor = fits_signed_from_abs w128 alpha (omega arith);
      number = fits_signed_from_abs w128 number (omega arith);
      product = fits_signed_from_abs w128 (alpha *ℤ number) (omega arith);
      load = fits_signed_from_abs w128 load (omega arith);
      difference = fits_signed_from_abs w128 (alpha *ℤ number -ℤ load) (omega arith);
    }
