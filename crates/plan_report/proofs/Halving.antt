-- Halving between two numbers.
use Rattle.std.proofs.Common.{◌≡◌, ℕ, zero, suc, ◌+◌, ◌/◌, ◌<◌, ◌≤◌, Bool, true, false, if◌then◌else◌, refl, sym, ◌∙◌, ap, arith}
use Rattle.std.specs.Prelude.{nat_lt}
use Rattle.std.proofs.Common.{inl, inr, ◌⊎◌}
use Rattle.std.proofs.lemmas.Bool.Decides.{nat_tests}
use Rattle.plan_report.specs.Shown.{halved}

apart : (low high : ℕ) → nat_lt (low + 1) high ≡ true → low + 1 < high
apart low high e = grind (arith, nat_tests)

near : (low high : ℕ) → nat_lt (low + 1) high ≡ false → high ≤ low + 1
near low high e = grind (arith, nat_tests)

is_apart : (low high : ℕ) → low + 1 < high → nat_lt (low + 1) high ≡ true
is_apart low high lt = grind (arith, nat_tests)

is_near : (low high : ℕ) → high ≤ low + 1 → nat_lt (low + 1) high ≡ false
is_near low high le = grind (arith, nat_tests)

pub middle_below : (low high : ℕ) → low + 1 < high → (low + high) / 2 + 1 ≤ high
middle_below low high lt = omega arith

pub middle_above : (low high : ℕ) → low + 1 < high → low + 1 ≤ (low + high) / 2
middle_above low high lt = omega arith

-- it is done where the numbers differ by at most 1
pub halved_near : (f : ℕ → Bool) (times low high : ℕ) → high ≤ low + 1 → halved f times low high ≡ (low, high)
unfolding halved
halved_near f zero low high le = refl
halved_near f (suc times) low high le = rw (is_near low high le) refl

-- as many steps as they differ are enough
pub halved_enough : (f : ℕ → Bool) (m n low high : ℕ) → high ≤ low + m → high ≤ low + n → halved f m low high ≡ halved f n low high
unfolding halved
halved_enough f zero zero low high le le_too = refl
halved_enough f zero (suc n) low high le le_too = sym (halved_near f (suc n) low high (omega arith))
halved_enough f (suc m) zero low high le le_too = halved_near f (suc m) low high (omega arith)
halved_enough f (suc m) (suc n) low high le le_too = by (λ a b few few_too. halved_enough f m n a b few few_too) (nat_lt (low + 1) high) refl
  where
    turn : ((a b : ℕ) → b ≤ a + m → b ≤ a + n → halved f m a b ≡ halved f n a b) → (b : Bool) → low + 1 < high
        → (if b then halved f m low ((low + high) / 2) else halved f m ((low + high) / 2) high) ≡ (if b then halved f n low ((low + high) / 2) else halved f n ((low + high) / 2) high)
    turn again true lt = let h = middle_below low high lt in again low ((low + high) / 2) (omega arith) (omega arith)
    turn again false lt = let h = middle_above low high lt in again ((low + high) / 2) high (omega arith) (omega arith)

    by : ((a b : ℕ) → b ≤ a + m → b ≤ a + n → halved f m a b ≡ halved f n a b) → (b : Bool) → nat_lt (low + 1) high ≡ b
        → (if b then (if f ((low + high) / 2) then halved f m low ((low + high) / 2) else halved f m ((low + high) / 2) high) else (low, high))
        ≡ (if b then (if f ((low + high) / 2) then halved f n low ((low + high) / 2) else halved f n ((low + high) / 2) high) else (low, high))
    by again true e = turn again (f ((low + high) / 2)) (apart low high e)
    by again false e = refl

-- a step down, and one up
pub halved_down : (f : ℕ → Bool) (times low high : ℕ) → low + 1 < high → high ≤ low + times → f ((low + high) / 2) ≡ true
    → halved f times low high ≡ halved f times low ((low + high) / 2)
unfolding halved
halved_down f zero low high lt le e = absurd (omega arith)
halved_down f (suc times) low high lt le e =
    let h = middle_below low high lt in
    rw (is_apart low high lt, e) (halved_enough f times (suc times) low ((low + high) / 2) (omega arith) (omega arith))

pub halved_up : (f : ℕ → Bool) (times low high : ℕ) → low + 1 < high → high ≤ low + times → f ((low + high) / 2) ≡ false
    → halved f times low high ≡ halved f times ((low + high) / 2) high
unfolding halved
halved_up f zero low high lt le e = absurd (omega arith)
halved_up f (suc times) low high lt le e =
    let h = middle_above low high lt in
    rw (is_apart low high lt, e) (halved_enough f times (suc times) ((low + high) / 2) high (omega arith) (omega arith))

-- ---- what the two numbers are

-- they differ by at most 1 and lie between the first two; the upper one is high enough, or the first upper one; the lower one
-- isn't, or is the first lower one
pub record IsHalved (f : ℕ → Bool) (low high : ℕ) (ends : ℕ × ℕ) : Type 0 where
  pub above : low ≤ ends.0
  pub order : ends.0 ≤ ends.1
  pub near : ends.1 ≤ ends.0 + 1
  pub below : ends.1 ≤ high
  pub upper : (f ends.1 ≡ true) ⊎ (ends.1 ≡ high)
  pub lower : (f ends.0 ≡ false) ⊎ (ends.0 ≡ low)

pub halved_is : (f : ℕ → Bool) (times low high : ℕ) → low ≤ high → high ≤ low + times → IsHalved f low high (halved f times low high)
unfolding halved
halved_is f zero low high le few = record { above = omega arith; order = le; near = omega arith; below = omega arith; upper = inr refl; lower = inr refl }
halved_is f (suc times) low high le few = by (λ a b order far. halved_is f times a b order far) (nat_lt (low + 1) high) refl
  where
    lower_from : (x middle : ℕ) → f middle ≡ false → (f x ≡ false) ⊎ (x ≡ middle) → (f x ≡ false) ⊎ (x ≡ low)
    lower_from x middle e (inl h) = inl h
    lower_from x middle e (inr h) = inl (ap f h ∙ e)

    upper_from : (x middle : ℕ) → f middle ≡ true → (f x ≡ true) ⊎ (x ≡ middle) → (f x ≡ true) ⊎ (x ≡ high)
    upper_from x middle e (inl h) = inl h
    upper_from x middle e (inr h) = inl (ap f h ∙ e)

    turn : ((a b : ℕ) → a ≤ b → b ≤ a + times → IsHalved f a b (halved f times a b)) → (b : Bool) → f ((low + high) / 2) ≡ b → low + 1 < high
        → IsHalved f low high (if b then halved f times low ((low + high) / 2) else halved f times ((low + high) / 2) high)
    turn again true e lt =
        let less = middle_below low high lt in
        let more = middle_above low high lt in
        let is = again low ((low + high) / 2) (omega arith) (omega arith) in
        let most = is.below in
        record { above = is.above; order = is.order; near = is.near; below = omega arith; upper = upper_from (halved f times low ((low + high) / 2)).1 ((low + high) / 2) e is.upper; lower = is.lower }
    turn again false e lt =
        let less = middle_below low high lt in
        let more = middle_above low high lt in
        let is = again ((low + high) / 2) high (omega arith) (omega arith) in
        let least = is.above in
        record { above = omega arith; order = is.order; near = is.near; below = is.below; upper = is.upper; lower = lower_from (halved f times ((low + high) / 2) high).0 ((low + high) / 2) e is.lower }

    by : ((a b : ℕ) → a ≤ b → b ≤ a + times → IsHalved f a b (halved f times a b)) → (b : Bool) → nat_lt (low + 1) high ≡ b
        → IsHalved f low high (if b then (if f ((low + high) / 2) then halved f times low ((low + high) / 2) else halved f times ((low + high) / 2) high) else (low, high))
    by again true e = turn again (f ((low + high) / 2)) refl (apart low high e)
    by again false e = let h = near low high e in record { above = omega arith; order = le; near = h; below = omega arith; upper = inr refl; lower = inr refl }
