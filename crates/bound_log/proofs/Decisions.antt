-- What can be decided of a text: whether it is a line of the grammar.
use Rattle.std.proofs.Common.{◌≡◌, ◌⊎◌, ℕ, zero, suc, ◌<◌, ◌≤◌, ltb, List, [], ◌∷◌, arith, refl, ap, ap₂, subst, sym, ◌∙◌, append-nil, inl, inr}
use Rattle.std.proofs.lemmas.Bool.{cases_Bool, false≢true, lt-ltb, ltb-true}
use Rattle.lent_parts.specs.Pieces.{tokens_of}
use Rattle.bound_log.specs.Grammar.{number_bound, HasNumbersBelow, IsLine}
use Rattle.bound_log.specs.Lines.{numbers_of}
use Rattle.bound_log.specs.LogLines.{words_of}
use Rattle.bound_log.specs.LogText.{line_words}
use Rattle.bound_log.specs.Numbers.{AreShort}
use Rattle.bound_log.specs.declared.log_format.LogFormat.{LogFormat}
use Rattle.bound_log.specs.declared.log_format.LogFormat.TheVariants.{First, Second}
use Rattle.bound_log.specs.declared.log_line.LogLine.{LogLine}
use Rattle.bound_log.specs.declared.named_line.NamedLine.{NamedLine}
use Rattle.bound_log.specs.Formats.{IsLineIn, LineIn}
use Rattle.bound_log.specs.NamedText.{named_numbers, named_words}
use Rattle.bound_log.proofs.GrammarLemmas.{line_in, line_of_words, reads_line, words_of_line}
use Rattle.bound_log.proofs.NamedLemmas.{named_line_in, named_of_words, reads_named, words_of_named}

-- something holds, or it doesn't
abbrev pub Decided : Type 0 → Type 0
Decided P = P ⊎ (P → ⊥)

pub both : (P Q : Type 0) → Decided P → Decided Q → Decided (P × Q)
both P Q (inl one) (inl two) = inl (one, two)
both P Q (inl one) (inr not_two) = inr (λ is. not_two is.1)
both P Q (inr not_one) second = inr (λ is. not_one is.0)

-- ---- numbers and texts

pub at_most : (m n : ℕ) → Decided (m ≤ n)
at_most zero n = inl (omega arith)
at_most (suc m) zero = inr (λ is. absurd (omega (arith, is)))
at_most (suc m) (suc n) = elim (at_most m n) [ inl low ↦ inl (omega (arith, low)) | inr high ↦ inr (λ is. high (omega (arith, is))) ]

same_number : (m n : ℕ) → Decided (m ≡ n)
same_number zero zero = inl refl
same_number zero (suc n) = inr (λ is. absurd (omega (arith, is)))
same_number (suc m) zero = inr (λ is. absurd (omega (arith, is)))
same_number (suc m) (suc n) = elim (same_number m n) [ inl same ↦ inl (ap suc same) | inr other ↦ inr (λ is. other (omega (arith, is))) ]

record SameFirst (x y : ℕ) (xs ys : List ℕ) : Type 0 where
  first : x ≡ y
  rest : xs ≡ ys

same_first : (x y : ℕ) (xs ys : List ℕ) → x ∷ xs ≡ y ∷ ys → SameFirst x y xs ys
same_first x y xs ys same = record { first = cc; rest = cc }

record SameWord (x y : List ℕ) (xs ys : List (List ℕ)) : Type 0 where
  first : x ≡ y
  rest : xs ≡ ys

same_word : (x y : List ℕ) (xs ys : List (List ℕ)) → x ∷ xs ≡ y ∷ ys → SameWord x y xs ys
same_word x y xs ys same = record { first = cc; rest = cc }

pub same_text : (xs ys : List ℕ) → Decided (xs ≡ ys)
same_text [] [] = inl refl
same_text [] (y ∷ ys) = inr (λ is. absurd (cc))
same_text (x ∷ xs) [] = inr (λ is. absurd (cc))
same_text (x ∷ xs) (y ∷ ys) = elim (both (x ≡ y) (xs ≡ ys) (same_number x y) (same_text xs ys)) [
  | inl same ↦ inl (ap₂ (λ (c : ℕ) (cs : List ℕ). c ∷ cs) same.0 same.1)
  | inr other ↦ inr (λ is. let parts = same_first x y xs ys is in other (parts.first, parts.rest))
]

same_words : (xs ys : List (List ℕ)) → Decided (xs ≡ ys)
same_words [] [] = inl refl
same_words [] (y ∷ ys) = inr (λ is. absurd (cc))
same_words (x ∷ xs) [] = inr (λ is. absurd (cc))
same_words (x ∷ xs) (y ∷ ys) = elim (both (x ≡ y) (xs ≡ ys) (same_text x y) (same_words xs ys)) [
  | inl same ↦ inl (ap₂ (λ (w : List ℕ) (ws : List (List ℕ)). w ∷ ws) same.0 same.1)
  | inr other ↦ inr (λ is. let parts = same_word x y xs ys is in other (parts.first, parts.rest))
]

-- each number has at most 19 digits, or one hasn't
are_short : (numbers : List ℕ) → Decided (AreShort numbers)
are_short [] = inl tt
are_short (n ∷ numbers) =
    both (n < number_bound) (AreShort numbers)
    (elim (cases_Bool (ltb n number_bound)) [
      | inl is ↦ inl (ltb-true n number_bound is)
      | inr other ↦ inr (λ below. false≢true (sym other ∙ lt-ltb n number_bound below))
    ])
    (are_short numbers)

-- ---- the one line that words may be of

line_in-words : (line : LogLine) → HasNumbersBelow number_bound line → line ≡ line_in (line_words line)
line_in-words line short = (reads_line line [] short).line_is ∙ ap line_in (append-nil (line_words line))

-- a line with these words
record HasLine (words : List (List ℕ)) : Type 0 where
  line : LogLine
  numbers : HasNumbersBelow number_bound line
  spelled : words ≡ line_words line

-- where words are of a line, they are of that one
only_line : (words : List (List ℕ)) → HasLine words → (words ≡ line_words (line_in words)) × HasNumbersBelow number_bound (line_in words)
only_line words has =
    let read : has.line ≡ line_in words = line_in-words has.line has.numbers ∙ ap line_in (sym has.spelled) in
    (has.spelled ∙ ap line_words read, subst (HasNumbersBelow number_bound) read has.numbers)

spelled : (words : List (List ℕ)) → Decided (HasLine words)
spelled words = elim (both (words ≡ line_words (line_in words)) (HasNumbersBelow number_bound (line_in words)) (same_words words (line_words (line_in words))) (are_short (numbers_of (line_in words)))) [
  | inl is ↦ inl (record { line = line_in words; numbers = is.1; spelled = is.0 })
  | inr other ↦ inr (λ has. other (only_line words has))
]

-- a line that a text, without its LF, is
pub record Reads (text : List ℕ) : Type 0 where
  pub line : LogLine
  pub is : IsLine text line

pub line_or_none : (text : List ℕ) → Decided (Reads text)
line_or_none text = elim (spelled (words_of (tokens_of text))) [
  | inl found ↦ inl (record {
    line = found.line;
    is = line_of_words text found.line [] (record { spelled = found.spelled ∙ sym (append-nil (line_words found.line)); numbers = found.numbers }) refl;
  })
  | inr other ↦ inr (λ read. other (record { line = read.line; numbers = read.is.numbers; spelled = words_of_line text read.line read.is }))
]

-- ---- a line of format 2

named_line_in-words : (line : NamedLine) → AreShort (named_numbers line) → line ≡ named_line_in (named_words line)
named_line_in-words line short = (reads_named line [] short).line_is ∙ ap named_line_in (append-nil (named_words line))

record HasNamed (words : List (List ℕ)) : Type 0 where
  line : NamedLine
  numbers : AreShort (named_numbers line)
  spelled : words ≡ named_words line

only_named : (words : List (List ℕ)) → HasNamed words → (words ≡ named_words (named_line_in words)) × AreShort (named_numbers (named_line_in words))
only_named words has =
    let read : has.line ≡ named_line_in words = named_line_in-words has.line has.numbers ∙ ap named_line_in (sym has.spelled) in
    (has.spelled ∙ ap named_words read, subst (λ (l : NamedLine). AreShort (named_numbers l)) read has.numbers)

spelled_named : (words : List (List ℕ)) → Decided (HasNamed words)
spelled_named words = elim (both (words ≡ named_words (named_line_in words)) (AreShort (named_numbers (named_line_in words))) (same_words words (named_words (named_line_in words))) (are_short (named_numbers (named_line_in words)))) [
  | inl is ↦ inl (record { line = named_line_in words; numbers = is.1; spelled = is.0 })
  | inr other ↦ inr (λ has. other (only_named words has))
]

-- ---- a line of either format

-- a line of a format that a text, without its LF, is
pub record ReadsIn (format : LogFormat) (text : List ℕ) : Type 0 where
  pub line : LineIn format
  pub is : IsLineIn format text line

pub line_or_none_in : (format : LogFormat) (text : List ℕ) → Decided (ReadsIn format text)
line_or_none_in First text = elim (line_or_none text) [
  | inl found ↦ inl (record { line = found.line; is = found.is })
  | inr other ↦ inr (λ read. other (record { line = read.line; is = read.is }))
]
line_or_none_in Second text = elim (spelled_named (words_of (tokens_of text))) [
  | inl found ↦ inl (record {
    line = found.line;
    is = named_of_words text found.line [] (record { spelled = found.spelled ∙ sym (append-nil (named_words found.line)); numbers = found.numbers }) refl;
  })
  | inr other ↦ inr (λ read. other (record { line = read.line; numbers = read.is.numbers; spelled = words_of_named text read.line read.is }))
]
