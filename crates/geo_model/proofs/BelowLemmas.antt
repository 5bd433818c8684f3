use Rattle.std.proofs.Common.{◌≡◌, ◌<◌, ◌≤◌, ℕ, zero, suc, ◌+◌, ◌*◌, ℤ, pos, ◌+ℤ◌, ◌≤ℤ◌, Bool, true, false, ◌||◌, if◌then◌else◌, List, [], ◌∷◌, length, get_or, arith, refl, ap, sym, ◌∙◌, add-one, below_more}
use Rattle.whole_algebra.proofs.Order.{add_le_add, le_refl}
use Rattle.geo_model.specs.Below.{sum_below, int_sum_below, any_below}
use Rattle.geo_model.specs.Cover.{chosen_sum}

-- Laws of sums over the numbers below n.

-- ---- steps

pub sum_below-none : (f : ℕ → ℕ) → sum_below f 0 ≡ 0
unfolding sum_below
sum_below-none f = refl

pub sum_below-more : (f : ℕ → ℕ) (n : ℕ) → sum_below f (n + 1) ≡ sum_below f n + f n
unfolding sum_below
sum_below-more f n = rw add-one refl

pub int_sum_below-none : (f : ℕ → ℤ) → int_sum_below f 0 ≡ pos 0
unfolding int_sum_below
int_sum_below-none f = refl

pub int_sum_below-more : (f : ℕ → ℤ) (n : ℕ) → int_sum_below f (n + 1) ≡ int_sum_below f n +ℤ f n
unfolding int_sum_below
int_sum_below-more f n = rw add-one refl

pub any_below-none : (test : ℕ → Bool) → any_below test 0 ≡ false
unfolding any_below
any_below-none test = refl

pub any_below-more : (test : ℕ → Bool) (n : ℕ) → any_below test (n + 1) ≡ any_below test n || test n
unfolding any_below
any_below-more test n = rw add-one refl

or_both_false : (a b : Bool) → a ≡ false → b ≡ false → (a || b) ≡ false
or_both_false a b e f = rw e f

pub any_below-still_none : (test : ℕ → Bool) (n : ℕ) → any_below test n ≡ false → test n ≡ false → any_below test (n + 1) ≡ false
any_below-still_none test n before here = any_below-more test n ∙ or_both_false (any_below test n) (test n) before here

or_left : (a b : Bool) → a ≡ true → (a || b) ≡ true
or_left a b e = rw e refl

or_right : (a b : Bool) → b ≡ true → (a || b) ≡ true
or_right true b e = refl
or_right false b e = e

-- a number below n that passes the test
pub any_below-some : (test : ℕ → Bool) (n i : ℕ) → i < n → test i ≡ true → any_below test n ≡ true
unfolding any_below
any_below-some test zero i inside holds = absurd (omega arith)
any_below-some test (suc n) i inside holds =
    below_more (λ k. test k ≡ true → any_below test (suc n) ≡ true) n
    (λ k before at. or_left (any_below test n) (test n) (any_below-some test n k before at))
    (λ here. or_right (any_below test n) (test n) here)
    i (omega arith) holds

-- ---- order

-- sums that are at most one another place by place
pub sum_below-le : (f g : ℕ → ℕ) (n : ℕ) → ((i : ℕ) → i < n → f i ≤ g i) → sum_below f n ≤ sum_below g n
unfolding sum_below
sum_below-le f g zero each = omega arith
sum_below-le f g (suc n) each =
    omega (arith, sum_below-le f g n (λ i h. each i (omega arith)), each n (omega arith))

pub int_sum_below-le : (f g : ℕ → ℤ) (n : ℕ) → ((i : ℕ) → i < n → f i ≤ℤ g i) → int_sum_below f n ≤ℤ int_sum_below g n
unfolding int_sum_below
int_sum_below-le f g zero each = le_refl (pos 0)
int_sum_below-le f g (suc n) each =
    add_le_add (int_sum_below f n) (int_sum_below g n) (f n) (g n) (int_sum_below-le f g n (λ i h. each i (omega arith))) (each n (omega arith))

-- a sum of numbers of at most `each` one
pub sum_below-few : (f : ℕ → ℕ) (n most : ℕ) → ((i : ℕ) → i < n → f i ≤ most) → sum_below f n ≤ n * most
unfolding sum_below
sum_below-few f zero most each = omega arith
sum_below-few f (suc n) most each =
    omega (arith, sum_below-few f n most (λ i h. each i (omega arith)), each n (omega arith))

-- ---- a sum from the other end

pub sum_below-first : (f : ℕ → ℕ) (n : ℕ) → sum_below f (suc n) ≡ f 0 + sum_below (λ i. f (suc i)) n
unfolding sum_below
sum_below-first f zero = omega arith
sum_below-first f (suc n) = omega (arith, sum_below-first f n)

sum_below-zero : (f : ℕ → ℕ) (n : ℕ) → ((i : ℕ) → f i ≡ 0) → sum_below f n ≡ 0
unfolding sum_below
sum_below-zero f zero each = refl
sum_below-zero f (suc n) each = omega (arith, sum_below-zero f n each, each n)

-- the number at a place where a plan chooses it
abbrev pub chosen_at : List ℕ → List Bool → ℕ → ℕ
chosen_at numbers plan i = if get_or plan i false then get_or numbers i 0 else 0

none_at : (plan : List Bool) (i : ℕ) → chosen_at [] plan i ≡ 0
none_at plan i = none (get_or plan i false)
  where
    none : (b : Bool) → ◌≡◌ {A = ℕ} (if b then 0 else 0) 0
    none true = refl
    none false = refl

-- the sum of the chosen numbers, place by place
pub chosen_sum-below : (numbers : List ℕ) (plan : List Bool) → chosen_sum numbers plan ≡ sum_below (chosen_at numbers plan) (length plan)
chosen_sum-below [] plan = sym (sum_below-zero (chosen_at [] plan) (length plan) (none_at plan))
chosen_sum-below (number ∷ rest) [] = sym (sum_below-none (chosen_at (number ∷ rest) []))
chosen_sum-below (number ∷ rest) (chosen ∷ plan) =
    ap (λ s. (if chosen then number else 0) + s) (chosen_sum-below rest plan) ∙ sym (sum_below-first (chosen_at (number ∷ rest) (chosen ∷ plan)) (length plan))
