-- What is written is in the grammar, with the value that was written.
use Rattle.std.proofs.Common.{◌≡◌, ℕ, zero, suc, ◌+◌, ◌-◌, ◌*◌, ◌/◌, ◌%◌, ◌^◌, ◌<◌, ◌≤◌, List, [], ◌∷◌, ◌++◌, length, take, drop, arith, ap, ap₂, sym, ◌∙◌, refl, subst, Option, None, Some}
use Rattle.std.specs.Prelude.{ℤ, pos, negsuc, unsigned_abs}
use Rattle.std.specs.Char.{digit_value}
use Rattle.std.specs.List.{AllByRecursion}
use Rattle.std.specs.Fmt.{decimal}
use Rattle.std.specs.Str.Parse.{AllDigits, digits_value, digits_value_after}
use Rattle.std.proofs.lemmas.Fmt.{decimal_is_IsNumeral_wide, length-decimal-le_wide}
use Rattle.std.proofs.lemmas.Nat.{div_below, pow-add, mod_below, div-add-mod', mod-mul-add}
use Rattle.std.proofs.lemmas.Str.{digit_value_digit}
use Rattle.std.proofs.Math.Nat.{one-le-pow, pow-suc, mul-le-mul_right}
use Rattle.std.proofs.Math.Seq.{drop-length, take-length}
use Rattle.text_num.specs.Decimal.{Sign, unsigned, minus, sign_text, with_sign, fraction_text, IsFraction, fraction_value, IsDecimal, decimal_of}
use Rattle.text_num.specs.DecimalText.{last_digits, minus_text, point_text, decimal_text}
use Rattle.text_num.proofs.Grammar.{decimal_complete}

-- a digit's byte
digit_byte : (d : ℕ) → d < 10 → digit_value (48 + d) ≡ d
digit_byte d small = omega (arith, digit_value_digit (48 + d) (omega arith, omega arith))

joined : (m d u v : ℕ) → (m * 10 + d) * u + v ≡ m * (u * 10) + ((0 * 10 + d) * u + v)
joined m d u v = omega arith

-- what stands before digits counts as often as they have places
value_after : (m : ℕ) (cs : List ℕ) → digits_value_after 10 m cs ≡ m * 10 ^ length cs + digits_value 10 cs
value_after m [] = omega arith
value_after m (c ∷ cs) =
    value_after (m * 10 + digit_value c) cs
    ∙ joined m (digit_value c) (10 ^ length cs) (digits_value 10 cs)
    ∙ ap₂ (λ s t. m * s + t) (sym (pow-suc 10 (length cs))) (sym (value_after (0 * 10 + digit_value c) cs))

pub length-last_digits : (k n : ℕ) → length (last_digits k n) ≡ k
unfolding last_digits
length-last_digits zero n = refl
length-last_digits (suc k) n = ap suc (length-last_digits k n)

pub last_digits-digits : (k n : ℕ) → AllDigits 10 (last_digits k n)
unfolding last_digits
last_digits-digits zero n = tt
last_digits-digits (suc k) n =
    let small : n / 10 ^ k % 10 < 10 = omega arith in
    let byte : digit_value (48 + n / 10 ^ k % 10) ≡ n / 10 ^ k % 10 = digit_byte (n / 10 ^ k % 10) small in
    (omega arith, last_digits-digits k n)

split_digit : (n q u r f d : ℕ) → q * u + r ≡ n → f * 10 + d ≡ q → n ≡ f * (u * 10) + (d * u + r)
split_digit n q u r f d whole digit =
    let times : (f * 10 + d) * u ≡ q * u = ap (λ t. t * u) digit in
    omega arith

-- the last k + 1 digits are one digit before the last k
one_more_digit : (n k : ℕ) → n % 10 ^ suc k ≡ (n / 10 ^ k % 10) * 10 ^ k + n % 10 ^ k
one_more_digit n k =
    let u : ℕ = 10 ^ k in
    let some : 1 ≤ u = one-le-pow k 10 (omega arith) in
    let low : n % u < u = mod_below n u some in
    let split : n ≡ n / u / 10 * (u * 10) + (n / u % 10 * u + n % u) = split_digit n (n / u) u (n % u) (n / u / 10) (n / u % 10) (div-add-mod' n u) (div-add-mod' (n / u) 10) in
    let nine : n / u % 10 ≤ 9 = omega arith in
    let most : n / u % 10 * u ≤ 9 * u = mul-le-mul_right u nine in
    let below : n / u % 10 * u + n % u < u * 10 = omega arith in
    ap (λ t. n % t) (pow-suc 10 k) ∙ ap (λ t. t % (u * 10)) split ∙ mod-mul-add (n / u / 10) (u * 10) (n / u % 10 * u + n % u) below

pub value-last_digits : (k n : ℕ) → digits_value 10 (last_digits k n) ≡ n % 10 ^ k
unfolding last_digits
value-last_digits zero n = omega arith
value-last_digits (suc k) n =
    let d : ℕ = n / 10 ^ k % 10 in
    let small : d < 10 = omega arith in
    let byte : 0 * 10 + digit_value (48 + d) ≡ d = omega (arith, digit_byte d small) in
    ap (λ t. digits_value_after 10 t (last_digits k n)) byte
    ∙ value_after d (last_digits k n)
    ∙ ap₂ (λ s t. d * 10 ^ s + t) (length-last_digits k n) (value-last_digits k n)
    ∙ sym (one_more_digit n k)

-- the sign, the whole part and the fraction of a written number
sign_for : ℤ → Sign
sign_for (pos n) = unsigned
sign_for (negsuc n) = minus

fraction_for : ℕ → ℕ → Option (List ℕ)
fraction_for zero n = None
fraction_for (suc k) n = Some (last_digits (suc k) n)

spelled_sign : (z : ℤ) → minus_text z ≡ sign_text (sign_for z)
unfolding sign_for
spelled_sign (pos n) = refl
spelled_sign (negsuc n) = refl

spelled_fraction : (places n : ℕ) → point_text places n ≡ fraction_text (fraction_for places n)
unfolding fraction_for
spelled_fraction zero n = refl
spelled_fraction (suc k) n = refl

signed_size : (z : ℤ) → z ≡ with_sign (sign_for z) (unsigned_abs z)
unfolding sign_for
signed_size (pos n) = refl
signed_size (negsuc n) = refl

no_rest : (k : ℕ) (ds : List ℕ) → length ds ≡ k → AllByRecursion (λ c. c ≡ 48) (drop k ds)
no_rest k ds long = subst (AllByRecursion (λ c. c ≡ 48)) (sym (ap (λ t. drop t ds) (sym long) ∙ drop-length ds)) tt

fraction_form : (places n : ℕ) → places ≤ 3 → IsFraction places (fraction_for places n)
unfolding fraction_for
fraction_form zero n few = tt
fraction_form (suc k) n few =
    let ds : List ℕ = last_digits (suc k) n in
    let long : length ds ≡ suc k = length-last_digits (suc k) n in
    record {
      numeral = record { only_digits = last_digits-digits (suc k) n; some = omega arith; few = omega arith };
      zeros = no_rest (suc k) ds long;
    }

fraction_worth : (places n : ℕ) → fraction_value places (fraction_for places n) ≡ n % 10 ^ places
unfolding fraction_for
fraction_worth zero n = omega arith
fraction_worth (suc k) n =
    let ds : List ℕ = last_digits (suc k) n in
    let long : length ds ≡ suc k = length-last_digits (suc k) n in
    let kept : take (suc k) ds ≡ ds = ap (λ t. take t ds) (sym long) ∙ take-length ds in
    let none : suc k - length ds ≡ 0 = omega arith in
    let one : digits_value 10 ds * 1 ≡ digits_value 10 ds = omega arith in
    ap₂ (λ s t. digits_value 10 s * 10 ^ t) kept none ∙ one ∙ value-last_digits (suc k) n

pub decimal_text-IsDecimal : (value : ℤ) (places : ℕ) → places ≤ 3 → unsigned_abs value < 10 ^ (12 + places) → IsDecimal places (decimal_text value places) value
unfolding decimal_text
decimal_text-IsDecimal value places few small =
    let n : ℕ = unsigned_abs value in
    let u : ℕ = 10 ^ places in
    let some : 0 < u = one-le-pow places 10 (omega arith) in
    let whole_small : n / u < 10 ^ 12 = div_below n u (10 ^ 12) some (omega (arith, pow-add 10 12 places)) in
    let numeral = decimal_is_IsNumeral_wide (n / u) (omega arith) in
    let long : length (decimal (n / u)) ≤ 12 = length-decimal-le_wide 12 (n / u) (omega arith) whole_small (omega arith) in
    let back : n ≡ digits_value 10 (decimal (n / u)) * u + fraction_value places (fraction_for places n) =
    sym (ap₂ (λ s t. s * u + t) numeral.1 (fraction_worth places n) ∙ div-add-mod' n u) in
    record {
      sign = sign_for value;
      whole = decimal (n / u);
      fraction = fraction_for places n;
      spelled = ap₂ (λ s t. s ++ (decimal (n / u) ++ t)) (spelled_sign value) (spelled_fraction places n);
      whole_form = record { only_digits = numeral.0.1; some = omega (arith, numeral.0.0); few = long };
      fraction_form = fraction_form places n few;
      worth = signed_size value ∙ ap (with_sign (sign_for value)) back;
    }

pub decimal_of-decimal_text : (value : ℤ) (places : ℕ) → places ≤ 3 → unsigned_abs value < 10 ^ (12 + places) → decimal_of places (decimal_text value places) ≡ Some value
decimal_of-decimal_text value places few small = decimal_complete places (decimal_text value places) value (decimal_text-IsDecimal value places few small)
