-- What the texts of whole numbers are like: digits after at most one `-`, and each number has its own.
use Rattle.std.proofs.Common.{◌≡◌, ℕ, suc, ◌^◌, ◌<◌, List, [], ◌∷◌, arith, ap, sym, ◌∙◌, refl, subst, inl, inr, All}
use Rattle.std.specs.Prelude.{ℤ, pos, negsuc, unsigned_abs}
use Rattle.std.specs.Int.{IsInRange}
use Rattle.std.specs.List.{AllByRecursion}
use Rattle.std.specs.Fmt.{decimal, signed_decimal}
use Rattle.std.specs.Str.Parse.{AllDigits, digits_value}
use Rattle.std.proofs.lemmas.Fmt.{decimal_is_IsNumeral_wide}
use Rattle.std.proofs.lemmas.List.Elements.{All-from_recursion}
use Rattle.std.proofs.lemmas.Str.Parse.{digit_from_value}
use Rattle.text_num.specs.Whole.{whole_text, IsDigitOrMinus}

pub whole_text-signed_decimal : (z : ℤ) → whole_text z ≡ signed_decimal z
unfolding whole_text
whole_text-signed_decimal (pos n) = refl
whole_text-signed_decimal (negsuc n) = refl

pub digit_bytes : (ds : List ℕ) → AllDigits 10 ds → AllByRecursion IsDigitOrMinus ds
digit_bytes [] all = tt
digit_bytes (d ∷ ds) all = (inl (digit_from_value d all.0), digit_bytes ds all.1)

pub whole_text-bytes : (z : ℤ) → unsigned_abs z < 2 ^ 128 → AllByRecursion IsDigitOrMinus (whole_text z)
unfolding whole_text
whole_text-bytes (pos n) small = digit_bytes (decimal n) (decimal_is_IsNumeral_wide n (omega arith)).0.1
whole_text-bytes (negsuc n) small = (inr refl, digit_bytes (decimal (suc n)) (decimal_is_IsNumeral_wide (suc n) (omega arith)).0.1)

pub whole_text-all_bytes : (z : ℤ) → unsigned_abs z < 2 ^ 128 → All IsDigitOrMinus (whole_text z)
whole_text-all_bytes z small = All-from_recursion IsDigitOrMinus (whole_text z) (whole_text-bytes z small)

-- a number is the value of its digits
decimal_apart : (m n : ℕ) → m < 2 ^ 128 → n < 2 ^ 128 → decimal m ≡ decimal n → m ≡ n
decimal_apart m n small also same =
    sym (decimal_is_IsNumeral_wide m (omega arith)).1 ∙ ap (digits_value 10) same ∙ (decimal_is_IsNumeral_wide n (omega arith)).1

no_minus : (n : ℕ) (rest : List ℕ) → n < 2 ^ 128 → decimal n ≡ 45 ∷ rest → ⊥
no_minus n rest small same =
    let digits : AllDigits 10 (decimal n) = (decimal_is_IsNumeral_wide n (omega arith)).0.1 in
    let first : AllDigits 10 (45 ∷ rest) = subst (AllDigits 10) same digits in
    let digit : IsInRange 48 57 45 = digit_from_value 45 first.0 in
    omega (arith, digit.0)

tails : (c : ℕ) (xs ys : List ℕ) → c ∷ xs ≡ c ∷ ys → xs ≡ ys
tails c xs ys same = cc

pub whole_text-apart : (y z : ℤ) → unsigned_abs y < 2 ^ 128 → unsigned_abs z < 2 ^ 128 → whole_text y ≡ whole_text z → y ≡ z
unfolding whole_text
whole_text-apart (pos m) (pos n) small also same = ap pos (decimal_apart m n small also same)
whole_text-apart (pos m) (negsuc n) small also same = absurd (no_minus m (decimal (suc n)) small same)
whole_text-apart (negsuc m) (pos n) small also same = absurd (no_minus n (decimal (suc m)) also (sym same))
whole_text-apart (negsuc m) (negsuc n) small also same =
    let equal : suc m ≡ suc n = decimal_apart (suc m) (suc n) small also (tails 45 (decimal (suc m)) (decimal (suc n)) same) in
    ap negsuc (omega arith)
