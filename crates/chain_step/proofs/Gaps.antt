-- Sums of the gaps of quotients.
use Rattle.std.proofs.Common.{◌≡◌, ℕ, zero, suc, ◌+◌, ◌-◌, ◌<◌, ◌≤◌, List, [], ◌∷◌, map, length, refl, sym, ◌∙◌, ap, ap₂, arith, ◌^◌, ℤ, pos, ◌+ℤ◌, ◌*ℤ◌, neg_ℤ, ◌≤ℤ◌, unsigned_abs}
use Rattle.std.proofs.lemmas.Int.{ints}
use Rattle.whole_algebra.specs.Sums.{int_sum}
use Rattle.whole_algebra.specs.Rounding.{gap_over}
use Rattle.whole_algebra.specs.Matrices.{at}
use Rattle.whole_algebra.specs.Chains.{beside}
use Rattle.whole_algebra.proofs.Ring.{add_zero, zero_add, add_assoc}
use Rattle.whole_algebra.proofs.Rounding.{gap_range}
use Rattle.whole_algebra.proofs.Order.{add_nonneg}
use Rattle.chain_step.specs.Step.{gap_at, sum_from, left_of, right_of, slack_of}

-- ---- sums of numbers from a place on
pub one_more : (f : ℕ → ℤ) (first count : ℕ) → sum_from f first (count + 1) ≡ sum_from f first count +ℤ f (first + count)
one_more f first count = ap (sum_from f first) (next count)
  where
    next : (k : ℕ) → k + 1 ≡ suc k
    next k = omega arith

-- the first number apart
pub first_apart : (f : ℕ → ℤ) (p n : ℕ) → sum_from f p (suc n) ≡ f p +ℤ sum_from f (suc p) n
first_apart f p zero = zero_add (f (p + 0)) ∙ ap f (same p) ∙ sym (add_zero (f p))
  where
    same : (p : ℕ) → p + 0 ≡ p
    same p = omega arith
first_apart f p (suc n) =
    ap₂ (λ s t. s +ℤ t) (first_apart f p n) (ap f (moved p n)) ∙ add_assoc (f p) (sum_from f (suc p) n) (f (suc p + n))
  where
    moved : (p n : ℕ) → p + suc n ≡ suc p + n
    moved p n = omega arith

pub parted : (f : ℕ → ℤ) (p x y z : ℕ) → z ≡ x + y → sum_from f p z ≡ sum_from f p x +ℤ sum_from f (p + x) y
parted f p x zero z e = ap (sum_from f p) (all_of x z e) ∙ sym (add_zero (sum_from f p x))
  where
    all_of : (x z : ℕ) → z ≡ x + 0 → z ≡ x
    all_of x z e = omega arith
parted f p x (suc y) zero e = absurd (omega arith)
parted f p x (suc y) (suc z) e =
    ap₂ (λ s t. s +ℤ t) (parted f p x y z (omega arith)) (ap f (placed p x y z (omega arith)))
    ∙ add_assoc (sum_from f p x) (sum_from f (p + x) y) (f ((p + x) + y))
  where
    placed : (p x y z : ℕ) → z ≡ x + y → p + z ≡ (p + x) + y
    placed p x y z e = omega arith

-- the sum over a list, place by place
pub over_list : (g : ℤ → ℤ) (xs : List ℤ) (f : ℕ → ℤ) (p : ℕ) → ((j : ℕ) → f (p + j) ≡ g (at xs j)) → int_sum (map g xs) ≡ sum_from f p (length xs)
over_list g [] f p h = refl
over_list g (x ∷ xs) f p h =
    ap₂ (λ s t. s +ℤ t) (sym (h 0) ∙ ap f (same p)) (over_list g xs f (suc p) (λ j. ap f (moved p j) ∙ h (suc j)))
    ∙ sym (first_apart f p (length xs))
  where
    same : (p : ℕ) → p + 0 ≡ p
    same p = omega arith

    moved : (p j : ℕ) → suc p + j ≡ p + suc j
    moved p j = omega arith

pub zeros : (f : ℕ → ℤ) (p n : ℕ) → ((j : ℕ) → f j ≡ pos 0) → sum_from f p n ≡ pos 0
zeros f p zero h = refl
zeros f p (suc n) h = ap₂ (λ s t. s +ℤ t) (zeros f p n h) (h (p + n))

pub counted : (f : ℕ → ℤ) (p n : ℕ) → ((j : ℕ) → (pos 0 ≤ℤ f j) × (f j ≤ℤ pos 1)) → (pos 0 ≤ℤ sum_from f p n) × (sum_from f p n ≤ℤ pos n)
counted f p zero h = (omega (arith, ints), omega (arith, ints))
counted f p (suc n) h =
    let more = counted f p n h in
    let one = h (p + n) in
    (add_nonneg (sum_from f p n) (f (p + n)) more.0 one.0, high (sum_from f p n) (f (p + n)) n more.1 one.1)
  where
    high : (s t : ℤ) (n : ℕ) → s ≤ℤ pos n → t ≤ℤ pos 1 → (s +ℤ t) ≤ℤ pos (suc n)
    high s t n h g = omega (arith, ints)

-- ---- the slack of a row, right of its diagonal and left of it
pub right_range : (pivot : List ℤ) (k : ℕ) → k < length pivot → (pos 0 ≤ℤ right_of pivot k) × (right_of pivot k ≤ℤ pos (length pivot))
right_range pivot k lt =
    let right = counted (gap_at pivot k) (k + 1) (length pivot - (k + 1)) (λ (j : ℕ). gap_range (at pivot 0) (neg_ℤ (at pivot k *ℤ at pivot j))) in
    (right.0, most (right_of pivot k) (length pivot - (k + 1)) (length pivot) (omega arith) right.1)
  where
    most : (t : ℤ) (y n : ℕ) → y ≤ n → t ≤ℤ pos y → t ≤ℤ pos n
    most t y n le h = omega (arith, ints)

pub left_range : (pivot : List ℤ) (k : ℕ) → k ≤ 64 → (pos 0 ≤ℤ left_of pivot k) × (left_of pivot k ≤ℤ pos 64)
left_range pivot k few =
    let left = counted (gap_at pivot k) 1 (k - 1) (λ (j : ℕ). gap_range (at pivot 0) (neg_ℤ (at pivot k *ℤ at pivot j))) in
    (left.0, most (left_of pivot k) (k - 1) (omega arith) left.1)
  where
    most : (t : ℤ) (y : ℕ) → y ≤ 64 → t ≤ℤ pos y → t ≤ℤ pos 64
    most t y le h = omega (arith, ints)

-- with the gap of the diagonal it is the sum over all columns but the pivot's
pub slack_and_own : (pivot : List ℤ) (k : ℕ) → 1 ≤ k → k < length pivot
    → slack_of pivot k +ℤ gap_at pivot k k ≡ int_sum (map (λ c. gap_over (at pivot 0) (neg_ℤ (at pivot k *ℤ c))) (beside pivot))
slack_and_own [] k one lt = absurd (omega arith)
slack_and_own (a ∷ b) zero one lt = absurd (omega arith)
slack_and_own (a ∷ b) (suc i) one lt =
    let f = gap_at (a ∷ b) (suc i) in
    let r = suc (length b) - (suc i + 1) in
    let whole : int_sum (map (λ c. gap_over a (neg_ℤ (at b i *ℤ c))) b) ≡ sum_from f 1 (length b) =
    over_list (λ c. gap_over a (neg_ℤ (at b i *ℤ c))) b f 1 (λ j. ap f (one_on j)) in
    let apart = parted f 1 i (suc r) (length b) (omega arith) in
    let own = ap (λ p. sum_from f p (suc r)) (one_on i) ∙ first_apart f (suc i) r ∙ ap (λ p. f (suc i) +ℤ sum_from f p r) (next i) in
    turned (sum_from f 1 (suc i - 1)) (sum_from f 1 i) (sum_from f (suc i + 1) r) (f (suc i)) (ap (sum_from f 1) (less i)) ∙ sym (whole ∙ apart ∙ ap (λ t. sum_from f 1 i +ℤ t) own)
  where
    one_on : (j : ℕ) → 1 + j ≡ suc j
    one_on j = omega arith

    next : (j : ℕ) → suc (suc j) ≡ suc j + 1
    next j = omega arith

    less : (j : ℕ) → suc j - 1 ≡ j
    less j = omega arith

    turned : (l k r g : ℤ) → l ≡ k → (l +ℤ r) +ℤ g ≡ k +ℤ (g +ℤ r)
    turned l k r g e = omega (arith, ints)

-- ---- sums that a loop takes
pub added_high : (s t : ℤ) (k n : ℕ) → n ≡ suc k → s ≤ℤ pos k → t ≤ℤ pos 1 → (s +ℤ t) ≤ℤ pos n
added_high s t k n e h g = omega (arith, ints)

pub added_size : (s t : ℤ) (k : ℕ) → k ≤ 64 → pos 0 ≤ℤ s → s ≤ℤ pos k → pos 0 ≤ℤ t → t ≤ℤ pos 1 → unsigned_abs (s +ℤ t) ≤ 2 ^ 126
added_size s t k few a b c d = omega (arith, ints)

-- right of the diagonal
pub right_more : (f : ℕ → ℤ) (k m : ℕ) → 1 ≤ m → sum_from f (k + 1) ((m + 1) - 1) ≡ sum_from f (k + 1) (m - 1) +ℤ f (k + m)
right_more f k m one = ap (sum_from f (k + 1)) (next m one) ∙ ap (λ j. sum_from f (k + 1) (m - 1) +ℤ f j) (placed k m one)
  where
    next : (m : ℕ) → 1 ≤ m → (m + 1) - 1 ≡ suc (m - 1)
    next m one = omega arith

    placed : (k m : ℕ) → 1 ≤ m → (k + 1) + (m - 1) ≡ k + m
    placed k m one = omega arith
