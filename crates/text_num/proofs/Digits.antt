-- Digits at the front of a text, and the sizes of the numbers that digits write.
use Rattle.std.proofs.Common.{◌≡◌, ℕ, zero, suc, ◌+◌, ◌-◌, ◌*◌, ◌^◌, ◌<◌, ◌≤◌, Bool, true, false, cond, List, [], ◌∷◌, ◌++◌, length, take, arith, ap, sym, ◌∙◌, refl, rules}
use Rattle.std.specs.Char.{is_ascii_digit}
use Rattle.std.specs.List.{list_all, prefix_len}
use Rattle.std.specs.Str.Parse.{digits_value, AllDigits}
use Rattle.std.proofs.lemmas.Bool.{and_parts}
use Rattle.std.proofs.lemmas.Str.Parse.{IsNumeralModel, numerals_by_value, digits_value_short}
use Rattle.std.proofs.Math.Nat.{one-le-pow, mul-le-mul_right, mul-lt-mul_of_pos_right}
use Rattle.std.proofs.lemmas.Nat.{pow-add}
use Rattle.std.proofs.lemmas.List.{length-take}

-- a list of digits, as a test and as a fact
pub digits_model : IsNumeralModel (λ ds. list_all is_ascii_digit ds ≡ true) (digits_value 10)
digits_model = numerals_by_value _ (search rules)

pub AllDigits-from_test : (ds : List ℕ) → list_all is_ascii_digit ds ≡ true → AllDigits 10 ds
AllDigits-from_test ds test = digits_model.to ds test

pub test-from_AllDigits : (ds : List ℕ) → AllDigits 10 ds → list_all is_ascii_digit ds ≡ true
test-from_AllDigits ds all = digits_model.from ds all

pub digits_value-below : (ds : List ℕ) (k : ℕ) → AllDigits 10 ds → length ds ≤ k → digits_value 10 ds < 10 ^ k
digits_value-below ds k all few = digits_value_short digits_model ds k (test-from_AllDigits ds all) few

front_passes_at : (test : ℕ → Bool) (x : ℕ) (xs : List ℕ) (b : Bool) → test x ≡ b → list_all test (take (prefix_len test xs) xs) ≡ true → list_all test (take (cond b (1 + prefix_len test xs) 0) (x ∷ xs)) ≡ true
front_passes_at test x xs true is rest =
    let more : 1 + prefix_len test xs ≡ suc (prefix_len test xs) = omega arith in
    rw more (rw is rest)
front_passes_at test x xs false is rest = refl

pub AllDigits-take : (k : ℕ) (ds : List ℕ) → AllDigits 10 ds → AllDigits 10 (take k ds)
AllDigits-take zero ds all = tt
AllDigits-take (suc k) [] all = tt
AllDigits-take (suc k) (d ∷ ds) all = (all.0, AllDigits-take k ds all.1)

-- the front that passes passes
pub front_passes : (test : ℕ → Bool) (xs : List ℕ) → list_all test (take (prefix_len test xs) xs) ≡ true
front_passes test [] = refl
front_passes test (x ∷ xs) = front_passes_at test x xs (test x) refl (front_passes test xs)

-- what passes, before what does not, is the front that passes
pub prefix_len-of_front : (test : ℕ → Bool) (xs ys : List ℕ) → list_all test xs ≡ true → prefix_len test ys ≡ 0 → prefix_len test (xs ++ ys) ≡ length xs
prefix_len-of_front test [] ys all stop = stop
prefix_len-of_front test (x ∷ xs) ys all stop =
    let parts = and_parts (test x) (list_all test xs) all in
    ap (λ b. cond b (1 + prefix_len test (xs ++ ys)) 0) parts.0 ∙ (let rest = prefix_len-of_front test xs ys parts.1 stop in omega arith)

-- a whole part and what follows it
pub value_of_part-below : (p k a n : ℕ) → a < 10 ^ k → n < 10 ^ p → a * 10 ^ p + n < 10 ^ (k + p)
value_of_part-below p k a n low rest =
    let rows : (a + 1) * 10 ^ p ≤ 10 ^ k * 10 ^ p = mul-le-mul_right (10 ^ p) (omega arith) in
    omega (arith, pow-add 10 k p)

-- the digits after the point are worth less than one
pub fraction-below : (p : ℕ) (ds : List ℕ) → AllDigits 10 ds → digits_value 10 (take p ds) * 10 ^ (p - length ds) < 10 ^ p
fraction-below p ds all =
    let kept : ℕ = length (take p ds) in
    let size : digits_value 10 (take p ds) < 10 ^ kept = digits_value-below (take p ds) kept (AllDigits-take p ds all) (omega arith) in
    let times : digits_value 10 (take p ds) * 10 ^ (p - length ds) < 10 ^ kept * 10 ^ (p - length ds) = mul-lt-mul_of_pos_right size (one-le-pow (p - length ds) 10 (omega arith)) in
    let whole : kept + (p - length ds) ≡ p = omega (arith, length-take p ds) in
    let power : 10 ^ kept * 10 ^ (p - length ds) ≡ 10 ^ p = sym (pow-add 10 kept (p - length ds)) ∙ ap (λ t. 10 ^ t) whole in
    omega arith
