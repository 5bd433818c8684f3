-- The words of cuts: their bytes, and that each cut has its own.
use Rattle.std.proofs.Common.{◌≡◌, ◌==◌, if◌then◌else◌, ℕ, suc, ◌<◌, false, List, [], ◌∷◌, get_or, length, All, arith, refl, ap, ap₂, sym, ◌∙◌, subst}
use Rattle.std.specs.Prelude.{ℤ, pos, negsuc, neg_ℤ, unsigned_abs}
use Rattle.std.specs.Fmt.{decimal, signed_decimal}
use Rattle.std.specs.Int.{IsInRange}
use Rattle.std.specs.Str.Parse.{AllDigits, digits_value}
use Rattle.std.proofs.lemmas.Bool.{ne_eqb}
use Rattle.std.proofs.lemmas.Fmt.{decimal_nonempty}
use Rattle.std.proofs.lemmas.List.Elements.{All-nil, All-cons}
use Rattle.std.proofs.lemmas.Str.Parse.{digit_from_value}
use Rattle.bound_log.specs.CutReading.{PairBegins, CutBegins, after_cut, after_pair, cut_in, pair_in, signed_value}
use Rattle.bound_log.specs.CutText.{CutTextOf, cut_numbers, cut_words, pair_numbers, pair_words}
use Rattle.bound_log.specs.Numbers.{AreShort, IsNumberText, IsSigned, number_bound}
use Rattle.bound_log.proofs.ItemLemmas.{Kind, head_reads, some_words, head_bytes, number_bytes}
use Rattle.bound_log.proofs.NumberLemmas.{decimal-apart, decimal-digits, decimal-value}

-- ---- numbers with a sign

-- a number begins with no `-`
no_minus : (n : ℕ) (rest : List ℕ) → n < number_bound → decimal n ≡ 45 ∷ rest → ⊥
no_minus n rest small same =
    let digits : AllDigits 10 (45 ∷ rest) = subst (AllDigits 10) same (decimal-digits n small) in
    let digit : IsInRange 48 57 45 = digit_from_value 45 digits.0 in
    absurd (omega (arith, digit.0))

after_first : (c : ℕ) (xs ys : List ℕ) → c ∷ xs ≡ c ∷ ys → xs ≡ ys
after_first c xs ys same = cc

-- ---- pairs are read from their words

value_of_text : (text : List ℕ) (n : ℕ) → text ≡ decimal n → n < number_bound → signed_value text ≡ pos n
value_of_text [] n same small =
    let some : 0 < length (decimal n) = decimal_nonempty n (omega arith) in
    let none : 0 ≡ length (decimal n) = ap length same in
    absurd (omega arith)
value_of_text (c ∷ digits) n same small =
    let other : (c == 45) ≡ false = ne_eqb c 45 (λ is. no_minus n digits small (sym same ∙ ap (λ d. d ∷ digits) is)) in
    ap (λ b. if b then neg_ℤ (pos (digits_value 10 digits)) else pos (digits_value 10 (c ∷ digits))) other
    ∙ ap pos (ap (digits_value 10) same ∙ decimal-value n small)

pub signed_value-spelled : (z : ℤ) → unsigned_abs z < number_bound → signed_value (signed_decimal z) ≡ z
signed_value-spelled (pos n) small = value_of_text (decimal n) n refl small
signed_value-spelled (negsuc n) small = ap (λ m. neg_ℤ (pos m)) (decimal-value (suc n) small)

pub pair_reads : (front : List (List ℕ)) (pair : ℕ × ℤ) (rest : List (List ℕ)) → PairBegins front pair rest → (pair ≡ pair_in front) × (rest ≡ after_pair front)
pair_reads front pair rest begins =
    let unknown : digits_value 10 (decimal pair.0) ≡ pair.0 = decimal-value pair.0 begins.short.0 in
    let move : signed_value (signed_decimal pair.1) ≡ pair.1 = signed_value-spelled pair.1 begins.short.1.0 in
    (ap₂ (λ (i : ℕ) (v : ℤ). let made : ℕ × ℤ = (i, v) in made) (sym unknown) (sym move) ∙ ap pair_in (sym begins.spelled), ap after_pair (sym begins.spelled))

-- pairs as items
abbrev pub pair_kind : Kind (ℕ × ℤ)
pair_kind = record { words = pair_words; numbers = pair_numbers; read = pair_in; after = after_pair; reads = pair_reads; some = λ pair rest is. some_words (decimal pair.0) (signed_decimal pair.1 ∷ rest) is }

-- ---- bytes

-- what holds of digits and of `-` holds of each byte of a cut
module _ (P : ℕ → Type 0) (digit : (c : ℕ) → IsInRange 48 57 c → P c) (minus : P 45) where
  signed_bytes : (z : ℤ) → unsigned_abs z < number_bound → All P (signed_decimal z)
  signed_bytes (pos n) small = number_bytes P digit n small
  signed_bytes (negsuc n) small = All-cons P 45 (decimal (suc n)) minus (number_bytes P digit (suc n) small)

  pair_bytes : (pair : ℕ × ℤ) → AreShort (pair_numbers pair) → All (All P) (pair_words pair)
  pair_bytes pair short =
      All-cons (All P) (decimal pair.0) (signed_decimal pair.1 ∷ []) (number_bytes P digit pair.0 short.0)
      (All-cons (All P) (signed_decimal pair.1) [] (signed_bytes pair.1 short.1.0) (All-nil (All P)))

  pub cut_bytes : (cut : CutTextOf) → AreShort (cut_numbers cut) → All (All P) (cut_words cut)
  cut_bytes cut short = head_bytes pair_kind P digit pair_bytes cut.limit cut.pairs short

-- ---- cuts are read from their words

pub cut_reads : (front : List (List ℕ)) (cut : CutTextOf) (rest : List (List ℕ)) → CutBegins front cut rest → (cut ≡ cut_in front) × (rest ≡ after_cut front)
cut_reads front cut rest begins =
    let head = head_reads pair_kind cut.limit cut.pairs rest begins.short in (
      ap₂ (λ (l : ℕ) (ps : List (ℕ × ℤ)). let made : CutTextOf = record { limit = l; pairs = ps } in made) head.number_is head.items_are ∙ ap cut_in (sym begins.spelled),
      head.after_is ∙ ap after_cut (sym begins.spelled),
    )

-- ---- numbers below 0

pub not_minus_zero : (digits : List ℕ) (value : ℤ) → IsNumberText digits 0 → IsSigned (45 ∷ digits) value → ⊥
not_minus_zero digits (pos n) is signed = no_minus n digits signed.size (sym signed.spelled)
not_minus_zero digits (negsuc n) is signed =
    let text : digits ≡ decimal (suc n) = after_first 45 digits (decimal (suc n)) signed.spelled in
    let none : 0 ≡ suc n = decimal-apart 0 (suc n) is.size signed.size (sym is.spelled ∙ text) in
    absurd (omega arith)

pub not_negative : (digits : List ℕ) (value : ℤ) → ((number : ℕ) → IsNumberText digits number → ⊥) → IsSigned (45 ∷ digits) value → ⊥
not_negative digits (pos n) other signed = no_minus n digits signed.size (sym signed.spelled)
not_negative digits (negsuc n) other signed = other (suc n) (record { spelled = after_first 45 digits (decimal (suc n)) signed.spelled; size = signed.size })

-- a text without `-` at its front is that of no number below 0
pub not_plain : (text : List ℕ) (value : ℤ) → ((0 < length text) × (get_or text 0 0 ≡ 45) → ⊥) → ((number : ℕ) → IsNumberText text number → ⊥) → IsSigned text value → ⊥
not_plain text (pos n) plain other signed = other n (record { spelled = signed.spelled; size = signed.size })
not_plain text (negsuc n) plain other signed =
    let some : 0 < length text = subst (λ (t : List ℕ). 0 < length t) (sym signed.spelled) (omega arith) in
    let minus : get_or text 0 0 ≡ 45 = ap (λ (t : List ℕ). get_or t 0 0) signed.spelled in
    plain (some, minus)
