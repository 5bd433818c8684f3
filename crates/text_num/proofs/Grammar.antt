-- The function that gives a decimal's value is the grammar, in both directions.
use Rattle.std.proofs.Common.{◌≡◌, ℕ, zero, suc, ◌+◌, ◌*◌, ◌^◌, ◌<◌, ◌≤◌, Bool, true, false, ◌&&◌, ◌==◌, nat_le, cond, List, [], ◌∷◌, ◌++◌, length, take, drop, arith, ap, sym, ◌∙◌, refl, inl, inr, ◌⊎◌, Option, None, Some}
use Rattle.std.specs.Prelude.{ℤ, pos, neg_ℤ, unsigned_abs}
use Rattle.std.specs.Char.{is_ascii_digit}
use Rattle.std.specs.Int.{IsInRange}
use Rattle.std.proofs.lemmas.Str.Parse.{digit_from_value}
use Rattle.std.specs.List.{list_all, AllByRecursion}
use Rattle.std.specs.Option.{option_map}
use Rattle.std.specs.Str.Parse.{digits_value}
use Rattle.std.proofs.lemmas.Bool.{and_parts, eqb-true, leb-true, le-leb, eq-eqb, ne_eqb}
use Rattle.std.proofs.lemmas.List.{take-append-drop}
use Rattle.std.proofs.lemmas.List.Folds.{length-prefix_len}
use Rattle.std.proofs.Math.Nat.{one-le-pow}
use Rattle.std.proofs.Math.Seq.{take-append_seam, drop-append_seam}
use Rattle.text_num.specs.Decimal.{Sign, unsigned, plus, minus, sign_text, with_sign, IsNumeralUpTo, fraction_text, IsFractionDigits, IsFraction, fraction_value, IsDecimal, is_fraction, fraction_of, digit_count, unsigned_of, decimal_of}
use Rattle.text_num.proofs.Digits.{AllDigits-from_test, test-from_AllDigits, front_passes, prefix_len-of_front, digits_value-below, value_of_part-below, fraction-below}

-- ---- tests and options

chosen : {A : Type 0} (b : Bool) (x : Option A) (y : A) → cond b x None ≡ Some y → (b ≡ true) × (x ≡ Some y)
chosen true x y is = (refl, is)
chosen false x y is = absurd (cc)

mapped : {A B : Type 0} (f : A → B) (o : Option A) (y : B) → option_map f o ≡ Some y → (x : A) × (o ≡ Some x) × (f x ≡ y)
mapped f None y is = absurd (cc)
mapped f (Some x) y is = (x, refl, cc)

some_injective : {A : Type 0} (x y : A) → Some x ≡ Some y → x ≡ y
some_injective x y is = cc

both : (a b : Bool) → a ≡ true → b ≡ true → (a && b) ≡ true
both true b first second = second
both false b first second = absurd (cc)

zeros-from_test : (xs : List ℕ) → list_all (λ c. c == 48) xs ≡ true → AllByRecursion (λ c. c ≡ 48) xs
zeros-from_test [] test = tt
zeros-from_test (x ∷ xs) test = let parts = and_parts (x == 48) (list_all (λ c. c == 48) xs) test in (eqb-true x 48 parts.0, zeros-from_test xs parts.1)

test-from_zeros : (xs : List ℕ) → AllByRecursion (λ c. c ≡ 48) xs → list_all (λ c. c == 48) xs ≡ true
test-from_zeros [] all = refl
test-from_zeros (x ∷ xs) all = both (x == 48) (list_all (λ c. c == 48) xs) (eq-eqb x 48 all.0) (test-from_zeros xs all.1)

-- ---- the digits after the point

pub digits_from_test : (places : ℕ) (ds : List ℕ) → is_fraction places ds ≡ true → IsFractionDigits places ds
digits_from_test places ds test =
    let last = and_parts (nat_le 1 (length ds) && nat_le (length ds) 20 && list_all is_ascii_digit ds) (list_all (λ c. c == 48) (drop places ds)) test in
    let third = and_parts (nat_le 1 (length ds) && nat_le (length ds) 20) (list_all is_ascii_digit ds) last.0 in
    let first = and_parts (nat_le 1 (length ds)) (nat_le (length ds) 20) third.0 in
    record {
      numeral = record { only_digits = AllDigits-from_test ds third.1; some = leb-true 1 (length ds) first.0; few = leb-true (length ds) 20 first.1 };
      zeros = zeros-from_test (drop places ds) last.1;
    }

test_from_digits : (places : ℕ) (ds : List ℕ) → IsFractionDigits places ds → is_fraction places ds ≡ true
test_from_digits places ds form =
    both _ _ (both _ _ (both _ _ (le-leb 1 (length ds) form.numeral.some) (le-leb (length ds) 20 form.numeral.few)) (test-from_AllDigits ds form.numeral.only_digits)) (test-from_zeros (drop places ds) form.zeros)

record IsRest (places : ℕ) (text : List ℕ) (n : ℕ) : Type 0 where
  fraction : Option (List ℕ)
  spelled : text ≡ fraction_text fraction
  form : IsFraction places fraction
  worth : n ≡ fraction_value places fraction

fraction_sound : (places : ℕ) (text : List ℕ) (n : ℕ) → fraction_of places text ≡ Some n → IsRest places text n
unfolding fraction_of
fraction_sound places [] n is = record { fraction = None; spelled = refl; form = tt; worth = sym (some_injective 0 n is) }
fraction_sound places (c ∷ ds) n is =
    let taken = chosen (c == 46 && is_fraction places ds) (Some (fraction_value places (Some ds))) n is in
    let parts = and_parts (c == 46) (is_fraction places ds) taken.0 in
    record {
      fraction = Some ds;
      spelled = ap (λ t. t ∷ ds) (eqb-true c 46 parts.0);
      form = digits_from_test places ds parts.1;
      worth = sym (some_injective (fraction_value places (Some ds)) n taken.1);
    }

fraction_complete : (places : ℕ) (f : Option (List ℕ)) → IsFraction places f → fraction_of places (fraction_text f) ≡ Some (fraction_value places f)
unfolding fraction_of
fraction_complete places None form = refl
fraction_complete places (Some ds) form =
    ap (λ b. cond b (Some (fraction_value places (Some ds))) None) (both (46 == 46) (is_fraction places ds) refl (test_from_digits places ds form))

-- no digit stands first in what follows the whole part
rest_starts : (f : Option (List ℕ)) → digit_count (fraction_text f) ≡ 0
rest_starts None = refl
rest_starts (Some ds) = refl

pub fraction_value-below : (places : ℕ) (f : Option (List ℕ)) → IsFraction places f → fraction_value places f < 10 ^ places
fraction_value-below places None form = one-le-pow places 10 (omega arith)
fraction_value-below places (Some ds) form = fraction-below places ds form.numeral.only_digits

pub fraction_of-below : (places : ℕ) (text : List ℕ) (n : ℕ) → fraction_of places text ≡ Some n → n < 10 ^ places
fraction_of-below places text n is = let rest = fraction_sound places text n is in rw rest.worth (fraction_value-below places rest.fraction rest.form)

-- ---- a text without a sign

pub record IsUnsigned (places : ℕ) (text : List ℕ) (n : ℕ) : Type 0 where
  pub whole : List ℕ
  pub fraction : Option (List ℕ)
  pub spelled : text ≡ whole ++ fraction_text fraction
  pub whole_form : IsNumeralUpTo 12 whole
  pub fraction_form : IsFraction places fraction
  pub worth : n ≡ digits_value 10 whole * 10 ^ places + fraction_value places fraction

pub unsigned_sound : (places : ℕ) (text : List ℕ) (n : ℕ) → unsigned_of places text ≡ Some n → IsUnsigned places text n
unfolding unsigned_of
unsigned_sound places text n is =
    let count : ℕ = digit_count text in
    let whole : List ℕ = take count text in
    let taken = chosen (nat_le 1 count && nat_le count 12) (option_map (λ f. digits_value 10 whole * 10 ^ places + f) (fraction_of places (drop count text))) n is in
    let sizes = and_parts (nat_le 1 count) (nat_le count 12) taken.0 in
    let inner = mapped (λ f. digits_value 10 whole * 10 ^ places + f) (fraction_of places (drop count text)) n taken.1 in
    let rest = fraction_sound places (drop count text) inner.0 inner.1 in
    let long : length whole ≡ count = length-prefix_len is_ascii_digit text in
    let some : 1 ≤ count = leb-true 1 count sizes.0 in
    let few : count ≤ 12 = leb-true count 12 sizes.1 in
    record {
      whole = whole;
      fraction = rest.fraction;
      spelled = sym (take-append-drop count text) ∙ ap (λ t. whole ++ t) rest.spelled;
      whole_form = record { only_digits = AllDigits-from_test whole (front_passes is_ascii_digit text); some = omega arith; few = omega arith };
      fraction_form = rest.form;
      worth = sym inner.2 ∙ ap (λ f. digits_value 10 whole * 10 ^ places + f) rest.worth;
    }

pub unsigned_complete : (places : ℕ) (whole : List ℕ) (f : Option (List ℕ)) → IsNumeralUpTo 12 whole → IsFraction places f → unsigned_of places (whole ++ fraction_text f) ≡ Some (digits_value 10 whole * 10 ^ places + fraction_value places f)
unfolding unsigned_of
unsigned_complete places whole f form rest =
    let text : List ℕ = whole ++ fraction_text f in
    let count : digit_count text ≡ length whole = prefix_len-of_front is_ascii_digit whole (fraction_text f) (test-from_AllDigits whole form.only_digits) (rest_starts f) in
    let front : take (digit_count text) text ≡ whole = ap (λ k. take k text) count ∙ take-append_seam whole (fraction_text f) in
    let back : drop (digit_count text) text ≡ fraction_text f = ap (λ k. drop k text) count ∙ drop-append_seam whole (fraction_text f) in
    let test : (nat_le 1 (digit_count text) && nat_le (digit_count text) 12) ≡ true = both _ _ (le-leb 1 (digit_count text) (omega (arith, form.some))) (le-leb (digit_count text) 12 (omega (arith, form.few))) in
    ap (λ b. cond b (option_map (λ n. digits_value 10 (take (digit_count text) text) * 10 ^ places + n) (fraction_of places (drop (digit_count text) text))) None) test
    ∙ ap (λ t. option_map (λ n. digits_value 10 t * 10 ^ places + n) (fraction_of places (drop (digit_count text) text))) front
    ∙ ap (λ t. option_map (λ n. digits_value 10 whole * 10 ^ places + n) (fraction_of places t)) back
    ∙ ap (option_map (λ n. digits_value 10 whole * 10 ^ places + n)) (fraction_complete places f rest)

pub unsigned_of-below : (places : ℕ) (text : List ℕ) (n : ℕ) → unsigned_of places text ≡ Some n → n < 10 ^ (12 + places)
unsigned_of-below places text n is =
    let parts = unsigned_sound places text n is in
    let whole : digits_value 10 parts.whole < 10 ^ 12 = digits_value-below parts.whole 12 parts.whole_form.only_digits parts.whole_form.few in
    rw parts.worth (value_of_part-below places 12 (digits_value 10 parts.whole) (fraction_value places parts.fraction) whole (fraction_value-below places parts.fraction parts.fraction_form))

-- ---- the whole text

branch : {A : Type 0} (b : Bool) (x y z : A) → cond b x y ≡ z → ((b ≡ true) × (x ≡ z)) ⊎ ((b ≡ false) × (y ≡ z))
branch true x y z is = inl (refl, is)
branch false x y z is = inr (refl, is)

signed_parts : (places : ℕ) (text : List ℕ) (sign : Sign) (rest : List ℕ) (value : ℤ) → text ≡ sign_text sign ++ rest → option_map (with_sign sign) (unsigned_of places rest) ≡ Some value → IsDecimal places text value
signed_parts places text sign rest value spelled is =
    let inner = mapped (with_sign sign) (unsigned_of places rest) value is in
    let parts = unsigned_sound places rest inner.0 inner.1 in
    record {
      sign = sign;
      whole = parts.whole;
      fraction = parts.fraction;
      spelled = spelled ∙ ap (λ t. sign_text sign ++ t) parts.spelled;
      whole_form = parts.whole_form;
      fraction_form = parts.fraction_form;
      worth = sym inner.2 ∙ ap (with_sign sign) parts.worth;
    }

pub decimal_sound : (places : ℕ) (text : List ℕ) (value : ℤ) → decimal_of places text ≡ Some value → IsDecimal places text value
unfolding decimal_of
decimal_sound places [] value is = absurd (cc)
decimal_sound places (c ∷ text) value is =
    elim (branch (c == 45) _ _ _ is) [
      | inl here ↦ signed_parts places (c ∷ text) minus text value (ap (λ t. t ∷ text) (eqb-true c 45 here.0)) here.1
      | inr other ↦ elim (branch (c == 43) _ _ _ other.1) [
        | inl here ↦ signed_parts places (c ∷ text) plus text value (ap (λ t. t ∷ text) (eqb-true c 43 here.0)) here.1
        | inr none ↦ signed_parts places (c ∷ text) unsigned (c ∷ text) value refl none.1
      ]
    ]

complete_at : (places : ℕ) (sign : Sign) (whole : List ℕ) (f : Option (List ℕ)) → IsNumeralUpTo 12 whole → IsFraction places f → decimal_of places (sign_text sign ++ (whole ++ fraction_text f)) ≡ Some (with_sign sign (digits_value 10 whole * 10 ^ places + fraction_value places f))
unfolding decimal_of
complete_at places minus whole f form rest = ap (option_map (λ n. neg_ℤ (pos n))) (unsigned_complete places whole f form rest)
complete_at places plus whole f form rest = ap (option_map pos) (unsigned_complete places whole f form rest)
complete_at places unsigned [] f form rest = let some : 1 ≤ 0 = form.some in absurd (omega arith)
complete_at places unsigned (d ∷ ds) f form rest =
    let digit : IsInRange 48 57 d = digit_from_value d form.only_digits.0 in
    let text : List ℕ = ds ++ fraction_text f in
    let no_minus : (d == 45) ≡ false = ne_eqb d 45 (λ is. omega (arith, digit.0)) in
    let no_plus : (d == 43) ≡ false = ne_eqb d 43 (λ is. omega (arith, digit.0)) in
    ap (λ b. cond b (option_map (λ n. neg_ℤ (pos n)) (unsigned_of places text)) (cond (d == 43) (option_map pos (unsigned_of places text)) (option_map pos (unsigned_of places (d ∷ text))))) no_minus
    ∙ ap (λ b. cond b (option_map pos (unsigned_of places text)) (option_map pos (unsigned_of places (d ∷ text)))) no_plus
    ∙ ap (option_map pos) (unsigned_complete places (d ∷ ds) f form rest)

pub decimal_complete : (places : ℕ) (text : List ℕ) (value : ℤ) → IsDecimal places text value → decimal_of places text ≡ Some value
decimal_complete places text value is =
    ap (decimal_of places) is.spelled ∙ complete_at places is.sign is.whole is.fraction is.whole_form is.fraction_form ∙ ap Some (sym is.worth)

with_sign-size : (sign : Sign) (n : ℕ) → unsigned_abs (with_sign sign n) ≡ n
with_sign-size unsigned n = refl
with_sign-size plus n = refl
with_sign-size minus zero = refl
with_sign-size minus (suc n) = refl

pub decimal_of-below : (places : ℕ) (text : List ℕ) (value : ℤ) → decimal_of places text ≡ Some value → unsigned_abs value < 10 ^ (12 + places)
decimal_of-below places text value is =
    let parts = decimal_sound places text value is in
    let whole : digits_value 10 parts.whole < 10 ^ 12 = digits_value-below parts.whole 12 parts.whole_form.only_digits parts.whole_form.few in
    let n : ℕ = digits_value 10 parts.whole * 10 ^ places + fraction_value places parts.fraction in
    let small : n < 10 ^ (12 + places) = value_of_part-below places 12 (digits_value 10 parts.whole) (fraction_value places parts.fraction) whole (fraction_value-below places parts.fraction parts.fraction_form) in
    let size : unsigned_abs value ≡ n = ap unsigned_abs parts.worth ∙ with_sign-size parts.sign n in
    omega arith
