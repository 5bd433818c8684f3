-- Numbers as fields of a table: they are plain, and read back as themselves.
use Rattle.std.proofs.Common.{◌≡◌, ◌∙◌, ◌<◌, ◌≤◌, ◌/◌, ◌^◌, ℕ, zero, suc, true, false, List, [], ◌∷◌, Option, Some, None, length, refl, sym, ap, arith, ℤ, pos}
use Rattle.std.specs.Prelude.{codes}
use Rattle.std.specs.Fmt.{decimal}
use Rattle.std.proofs.lemmas.Bool.{false_from_ne_true, ne_eqb}
use Rattle.std.proofs.lemmas.Fmt.{decimal_is_IsNumeral_wide}
use Rattle.std.proofs.lemmas.List.{append-nil}
use Rattle.std.proofs.lemmas.Slice.Eq.{bytes_eq-Decides}
use Rattle.text_num.specs.Decimal.{decimal_of, unsigned_of}
use Rattle.text_num.specs.DecimalText.{decimal_text, last_digits}
use Rattle.text_num.proofs.Writing.{decimal_of-decimal_text, last_digits-digits}
use Rattle.table_columns.specs.Columns.{is_empty}
use Rattle.point_tables.specs.PointTable.{is_fixed}
use Rattle.gen_net.specs.Fields.{metres, tenths}
use Rattle.gen_texts.proofs.PlainTexts.{IsPlain, plain-append, plain-digits, plain-tested}

-- ---- they are plain

pub decimal-plain : (n : ℕ) → n < 10 ^ 18 → IsPlain (decimal n)
decimal-plain n small = plain-digits (decimal n) (decimal_is_IsNumeral_wide n (omega arith)).0.1

quotient-small : (n u : ℕ) → n < 10 ^ 12 → n / u < 10 ^ 18
quotient-small n zero small = omega arith
quotient-small n (suc u) small = below (n / suc u) n (omega arith) small
  where
    below : (q n : ℕ) → q ≤ n → n < 10 ^ 12 → q < 10 ^ 18
    below q n h k = omega arith

pub metres-plain : (n : ℕ) → n < 10 ^ 12 → IsPlain (metres n)
unfolding decimal_text
metres-plain n small =
    plain-append (decimal (n / 1000)) (46 ∷ last_digits 3 n) (decimal-plain (n / 1000) (quotient-small n 1000 small))
    (plain-append (codes ".") (last_digits 3 n) (plain-tested (codes ".") refl) (plain-digits (last_digits 3 n) (last_digits-digits 3 n)))

pub tenths-plain : (n : ℕ) → n < 10 ^ 12 → IsPlain (tenths n)
unfolding decimal_text
tenths-plain n small =
    plain-append (decimal (n / 10)) (46 ∷ last_digits 1 n) (decimal-plain (n / 10) (quotient-small n 10 small))
    (plain-append (codes ".") (last_digits 1 n) (plain-tested (codes ".") refl) (plain-digits (last_digits 1 n) (last_digits-digits 1 n)))

-- ---- they are read back

pub metres-read : (n : ℕ) → n < 10 ^ 12 → decimal_of 3 (metres n) ≡ Some (pos n)
metres-read n small = decimal_of-decimal_text (pos n) 3 (omega arith) (omega arith)

pub tenths-read : (n : ℕ) → n < 10 ^ 12 → decimal_of 1 (tenths n) ≡ Some (pos n)
tenths-read n small = decimal_of-decimal_text (pos n) 1 (omega arith) (omega arith)

whole-text : (n : ℕ) → decimal_text (pos n) 0 ≡ decimal n
unfolding decimal_text
whole-text n = append-nil (decimal (n / 1)) ∙ ap decimal (one n)
  where
    one : (n : ℕ) → n / 1 ≡ n
    one n = omega arith

pub decimal-read : (n : ℕ) → n < 10 ^ 12 → decimal_of 0 (decimal n) ≡ Some (pos n)
decimal-read n small = ap (decimal_of 0) (sym (whole-text n)) ∙ decimal_of-decimal_text (pos n) 0 (omega arith) (omega arith)

-- ---- what is read is neither empty nor a word

pub read-some : (places : ℕ) (text : List ℕ) (value : ℤ) → decimal_of places text ≡ Some value → is_empty text ≡ false
unfolding decimal_of
read-some places [] value e = cc e
read-some places (c ∷ text) value e = ne_eqb (length (c ∷ text)) 0 (λ none. absurd (omega (arith, none)))

fixed-word : (places : ℕ) → decimal_of places (codes "fixed") ≡ None
unfolding decimal_of unsigned_of
fixed-word places = refl

pub read-not_fixed : (places : ℕ) (text : List ℕ) (value : ℤ) → decimal_of places text ≡ Some value → is_fixed text ≡ false
read-not_fixed places text value e = false_from_ne_true (is_fixed text) (λ same. clash (decimal_of places text) (fixed-is same) e)
  where
    fixed-is : is_fixed text ≡ true → decimal_of places text ≡ None
    fixed-is same = ap (decimal_of places) ((bytes_eq-Decides text (codes "fixed")).0 same) ∙ fixed-word places

    clash : (o : Option ℤ) → o ≡ None → o ≡ Some value → ⊥
    clash o e f = cc (e, f)
