use Rattle.std.proofs.Common.{◌≡◌, ◌<◌, ◌≤◌, ℕ, zero, suc, ℤ, pos, ◌+ℤ◌, Bool, true, false, if◌then◌else◌, arith, refl, ap, ap₂, sym, ◌∙◌, eqb, ◌≢◌}
use Rattle.std.proofs.lemmas.Int.{ints}
use Rattle.std.proofs.lemmas.Bool.Decides.{nat_tests}
use Rattle.geo_model.specs.Below.{sum_below, int_sum_below}

-- Laws of sums of whole numbers over the numbers below n.

-- equal place by place
pub int_sum_below-eq : (f g : ℕ → ℤ) (n : ℕ) → ((i : ℕ) → i < n → f i ≡ g i) → int_sum_below f n ≡ int_sum_below g n
unfolding int_sum_below
int_sum_below-eq f g zero each = refl
int_sum_below-eq f g (suc n) each =
    ap₂ (λ (s t : ℤ). s +ℤ t) (int_sum_below-eq f g n (λ i h. each i (omega arith))) (each n (omega arith))

-- a sum of sums
pub int_sum_below-add : (f g : ℕ → ℤ) (n : ℕ) → int_sum_below (λ i. f i +ℤ g i) n ≡ int_sum_below f n +ℤ int_sum_below g n
unfolding int_sum_below
int_sum_below-add f g zero = refl
int_sum_below-add f g (suc n) =
    ap (λ s. s +ℤ (f n +ℤ g n)) (int_sum_below-add f g n) ∙ regroup (int_sum_below f n) (int_sum_below g n) (f n) (g n)
  where
    regroup : (a b x y : ℤ) → (a +ℤ b) +ℤ (x +ℤ y) ≡ (a +ℤ x) +ℤ (b +ℤ y)
    regroup a b x y = omega (arith, ints)

-- a sum of nothing
pub int_sum_below-zero : (n : ℕ) → int_sum_below (λ i. pos 0) n ≡ pos 0
unfolding int_sum_below
int_sum_below-zero zero = refl
int_sum_below-zero (suc n) = ap (λ s. s +ℤ pos 0) (int_sum_below-zero n)

-- sums in either order
pub int_sum_below-swap : (f : ℕ → ℕ → ℤ) (m n : ℕ) → int_sum_below (λ i. int_sum_below (f i) n) m ≡ int_sum_below (λ k. int_sum_below (λ i. f i k) m) n
unfolding int_sum_below
int_sum_below-swap f zero n = sym (int_sum_below-zero n)
int_sum_below-swap f (suc m) n =
    ap (λ s. s +ℤ int_sum_below (f m) n) (int_sum_below-swap f m n)
    ∙ sym (int_sum_below-add (λ k. int_sum_below (λ i. f i k) m) (f m) n)

-- one number of many
apart : (s n : ℕ) → n < s → eqb s n ≡ false
apart s n more = grind (arith, nat_tests)

below_one : (s : ℕ) (v : ℤ) (n : ℕ) → n ≤ s → int_sum_below (λ k. if eqb s k then v else pos 0) n ≡ pos 0
below_one s v n more =
    int_sum_below-eq (λ k. if eqb s k then v else pos 0) (λ k. pos 0) n (λ k h. left k (apart s k (omega arith)))
    ∙ int_sum_below-zero n
  where
    left : (k : ℕ) → eqb s k ≡ false → (if eqb s k then v else pos 0) ≡ pos 0
    left k e = rw e refl

same_number : (s n : ℕ) → eqb s n ≡ true → s ≡ n
same_number s n e = grind (arith, nat_tests)

other_number : (s n : ℕ) → s < suc n → eqb s n ≡ false → s < n
other_number s n inside e = let apart : s ≢ n = grind (arith, nat_tests) in omega arith

after_nothing : (z : ℤ) → pos 0 +ℤ z ≡ z
after_nothing z = omega (arith, ints)

before_nothing : (z : ℤ) → z +ℤ pos 0 ≡ z
before_nothing z = omega (arith, ints)

one_more : (s : ℕ) (v : ℤ) (n : ℕ) (b : Bool) → eqb s n ≡ b → s < suc n → (s < n → int_sum_below (λ k. if eqb s k then v else pos 0) n ≡ v)
    → int_sum_below (λ k. if eqb s k then v else pos 0) n +ℤ (if b then v else pos 0) ≡ v
one_more s v n true e inside earlier =
    ap (λ z. z +ℤ v) (below_one s v n (let is : s ≡ n = same_number s n e in omega arith)) ∙ after_nothing v
one_more s v n false e inside earlier =
    ap (λ z. z +ℤ pos 0) (earlier (other_number s n inside e)) ∙ before_nothing v

pub int_sum_below-one : (s : ℕ) (v : ℤ) (n : ℕ) → s < n → int_sum_below (λ k. if eqb s k then v else pos 0) n ≡ v
unfolding int_sum_below
int_sum_below-one s v zero inside = absurd (omega arith)
int_sum_below-one s v (suc n) inside = one_more s v n (eqb s n) refl inside (λ before. int_sum_below-one s v n before)

-- a sum of natural numbers
pub int_sum_below-pos : (f : ℕ → ℕ) (n : ℕ) → int_sum_below (λ i. pos (f i)) n ≡ pos (sum_below f n)
unfolding int_sum_below sum_below
int_sum_below-pos f zero = refl
int_sum_below-pos f (suc n) = ap (λ s. s +ℤ pos (f n)) (int_sum_below-pos f n)
