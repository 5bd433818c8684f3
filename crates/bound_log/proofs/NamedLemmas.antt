-- The lines of a log of format 2, their texts and their words.
use Rattle.std.proofs.Common.{◌≡◌, ◌==◌, if◌then◌else◌, ℕ, true, List, [], ◌∷◌, ◌++◌, All, arith, refl, ap, ap₂, sym, ◌∙◌, append-nil, append_assoc}
use Rattle.std.specs.Fmt.{decimal}
use Rattle.std.specs.List.{join_with_byte}
use Rattle.std.specs.Str.Parse.{digits_value}
use Rattle.std.proofs.lemmas.Bool.{ne_eqb}
use Rattle.std.proofs.lemmas.List.{same_from_push}
use Rattle.std.proofs.lemmas.List.Elements.{All-nil, All-cons}
use Rattle.lent_parts.specs.Pieces.{space, tokens_of, lines_of}
use Rattle.lent_parts.proofs.PieceLemmas.{tokens_of-joined, tokens_of-only, lines_of-more}
use Rattle.bound_log.specs.CutReading.{after_cut, cut_in}
use Rattle.bound_log.specs.CutText.{CutTextOf, cut_words}
use Rattle.bound_log.specs.LogText.{line_end}
use Rattle.lent_parts.specs.Pieces.{words_of}
use Rattle.bound_log.specs.NamedText.{IsNamedLine, NamedBegins, named_body, named_numbers, named_text, named_words}
use Rattle.bound_log.specs.Numbers.{AreShort}
use Rattle.bound_log.specs.UseText.{use_dual_numbers, use_dual_words}
use Rattle.bound_log.specs.declared.named_line.NamedLine.{NamedLine}
use Rattle.bound_log.specs.declared.named_line.NamedLine.TheVariants.{Split, Cost, Pivot, Named, UseCut, UseDual}
use Rattle.bound_log.proofs.CutLemmas.{cut_reads}
use Rattle.bound_log.proofs.GrammarLemmas.{NoFeed, NoSpace, cut_no_feed, cut_no_space, first_word, joined_words, later_words, one_byte, pair_no_feed, pair_no_space}
use Rattle.bound_log.proofs.ItemLemmas.{some_words, after_head, head_items, head_number, head_reads}
use Rattle.bound_log.proofs.NumberLemmas.{decimal-value}
use Rattle.bound_log.proofs.UseLemmas.{use_dual_bytes, use_kind}

-- ---- bytes that no word has

use_no_space : (divisor : ℕ) (uses : List (ℕ × ℕ)) → AreShort (use_dual_numbers divisor uses) → All (All NoSpace) (use_dual_words divisor uses)
use_no_space divisor uses short = use_dual_bytes NoSpace (λ c digit. ne_eqb c 32 (λ same. omega (arith, digit.0))) divisor uses short

use_no_feed : (divisor : ℕ) (uses : List (ℕ × ℕ)) → AreShort (use_dual_numbers divisor uses) → All (All NoFeed) (use_dual_words divisor uses)
use_no_feed divisor uses short = use_dual_bytes NoFeed (λ c digit. ne_eqb c 10 (λ same. omega (arith, digit.0))) divisor uses short

pub named_body-no_feed : (line : NamedLine) → AreShort (named_numbers line) → All NoFeed (named_body line)
named_body-no_feed (Split candidate) small = pair_no_feed 115 candidate refl small.0
named_body-no_feed Cost small = one_byte NoFeed 99 refl
named_body-no_feed (Pivot limit) small = pair_no_feed 112 limit refl small.0
named_body-no_feed (Named cut) small =
    joined_words NoFeed 32 ((107 ∷ []) ∷ cut_words cut) refl (All-cons (All NoFeed) (107 ∷ []) (cut_words cut) (one_byte NoFeed 107 refl) (cut_no_feed cut small))
named_body-no_feed (UseCut number) small = pair_no_feed 120 number refl small.0
named_body-no_feed (UseDual divisor uses) small =
    joined_words NoFeed 32 ((100 ∷ []) ∷ use_dual_words divisor uses) refl
    (All-cons (All NoFeed) (100 ∷ []) (use_dual_words divisor uses) (one_byte NoFeed 100 refl) (use_no_feed divisor uses small))

-- ---- texts of lines

-- a text in the grammar is the line without its LF
pub named_body_of : (text : List ℕ) (line : NamedLine) → IsNamedLine text line → text ≡ named_body line
named_body_of text line is = (same_from_push text (named_body line) 10 10 is.spelled).0

pub IsNamedLine-body : (line : NamedLine) → AreShort (named_numbers line) → IsNamedLine (named_body line) line
IsNamedLine-body line small = record { spelled = refl; numbers = small }

-- ---- words of lines

-- the words of a text in the grammar
pub words_of_named : (text : List ℕ) (line : NamedLine) → IsNamedLine text line → words_of (tokens_of text) ≡ named_words line
words_of_named text (Split candidate) is =
    tokens_of-only text (115 ∷ []) (decimal candidate ∷ []) (pair_no_space 115 candidate refl is.numbers.0) (named_body_of text (Split candidate) is)
words_of_named text Cost is =
    tokens_of-only text (99 ∷ []) [] (All-cons (All NoSpace) (99 ∷ []) [] (one_byte NoSpace 99 refl) (All-nil (All NoSpace))) (named_body_of text Cost is)
words_of_named text (Pivot limit) is =
    tokens_of-only text (112 ∷ []) (decimal limit ∷ []) (pair_no_space 112 limit refl is.numbers.0) (named_body_of text (Pivot limit) is)
words_of_named text (Named cut) is =
    tokens_of-only text (107 ∷ []) (cut_words cut)
    (All-cons (All NoSpace) (107 ∷ []) (cut_words cut) (one_byte NoSpace 107 refl) (cut_no_space cut is.numbers)) (named_body_of text (Named cut) is)
words_of_named text (UseCut number) is =
    tokens_of-only text (120 ∷ []) (decimal number ∷ []) (pair_no_space 120 number refl is.numbers.0) (named_body_of text (UseCut number) is)
words_of_named text (UseDual divisor uses) is =
    tokens_of-only text (100 ∷ []) (use_dual_words divisor uses)
    (All-cons (All NoSpace) (100 ∷ []) (use_dual_words divisor uses) (one_byte NoSpace 100 refl) (use_no_space divisor uses is.numbers)) (named_body_of text (UseDual divisor uses) is)

pub begins_of_named : (text : List ℕ) (line : NamedLine) → IsNamedLine text line → NamedBegins (words_of (tokens_of text)) line []
begins_of_named text line is = record { spelled = words_of_named text line is ∙ sym (append-nil (named_words line)); numbers = is.numbers }

-- a text with the words of a line and no others
pub named_of_words : (text : List ℕ) (line : NamedLine) (after : List (List ℕ)) → NamedBegins (words_of (tokens_of text)) line after → after ≡ [] → IsNamedLine text line
named_of_words text line after begins none =
    let words : words_of (tokens_of text) ≡ named_words line = begins.spelled ∙ ap (λ more. named_words line ++ more) none ∙ append-nil (named_words line) in
    record {
      spelled = ap (λ body. body ++ line_end) (sym (tokens_of-joined text) ∙ ap (join_with_byte space) words);
      numbers = begins.numbers;
    }

-- ---- lines are told by their words

-- the line of this kind that words may be of, where a kind is the byte of the word before them, and the words after it
abbrev named_as : ℕ → List (List ℕ) → NamedLine
named_as kind words =
    if kind == 115 then Split (digits_value 10 (first_word words))
    else (if kind == 112 then Pivot (digits_value 10 (first_word words))
    else (if kind == 107 then Named (cut_in words)
    else (if kind == 120 then UseCut (digits_value 10 (first_word words))
    else (if kind == 100 then UseDual (head_number words) (head_items use_kind words) else Cost))))

abbrev after_named_as : ℕ → List (List ℕ) → List (List ℕ)
after_named_as kind words =
    if kind == 115 then later_words words
    else (if kind == 112 then later_words words
    else (if kind == 107 then after_cut words
    else (if kind == 120 then later_words words
    else (if kind == 100 then after_head use_kind words else words))))

-- the line that words may begin with, and the words after it
abbrev pub named_line_in : List (List ℕ) → NamedLine
named_line_in [] = Cost
named_line_in ([] ∷ words) = Cost
named_line_in ((kind ∷ more) ∷ words) = named_as kind words

abbrev after_named : List (List ℕ) → List (List ℕ)
after_named [] = []
after_named ([] ∷ words) = words
after_named ((kind ∷ more) ∷ words) = after_named_as kind words

-- words that begin with a line begin with no other
pub record ReadsNamed (line : NamedLine) (rest : List (List ℕ)) : Type 0 where
  pub line_is : line ≡ named_line_in (named_words line ++ rest)
  pub after_is : rest ≡ after_named (named_words line ++ rest)

pub reads_named : (line : NamedLine) (rest : List (List ℕ)) → AreShort (named_numbers line) → ReadsNamed line rest
reads_named (Split candidate) rest small = record { line_is = ap Split (sym (decimal-value candidate small.0)); after_is = refl }
reads_named Cost rest small = record { line_is = refl; after_is = refl }
reads_named (Pivot limit) rest small = record { line_is = ap Pivot (sym (decimal-value limit small.0)); after_is = refl }
reads_named (Named cut) rest small =
    let reads = cut_reads (cut_words cut ++ rest) cut rest (record { spelled = refl; short = small }) in
    record { line_is = ap (λ (c : CutTextOf). Named c) reads.0; after_is = reads.1 }
reads_named (UseCut number) rest small = record { line_is = ap UseCut (sym (decimal-value number small.0)); after_is = refl }
reads_named (UseDual divisor uses) rest small =
    let reads = head_reads use_kind divisor uses rest small in
    record { line_is = ap₂ (λ (d : ℕ) (s : List (ℕ × ℕ)). UseDual d s) reads.number_is reads.items_are; after_is = reads.after_is }

record SameNamed (a b : NamedLine) (x y : List (List ℕ)) : Type 0 where
  line : a ≡ b
  rest : x ≡ y

same_named : (a b : NamedLine) (x y : List (List ℕ)) → AreShort (named_numbers a) → AreShort (named_numbers b) → named_words a ++ x ≡ named_words b ++ y → SameNamed a b x y
same_named a b x y small also same =
    let one = reads_named a x small in
    let two = reads_named b y also in
    record { line = one.line_is ∙ ap named_line_in same ∙ sym two.line_is; rest = one.after_is ∙ ap after_named same ∙ sym two.after_is }

-- the words of a line and more are those of no line
pub more_named_words : (read other : NamedLine) (word : List ℕ) (more : List (List ℕ)) → AreShort (named_numbers read) → AreShort (named_numbers other) →
    named_words read ++ word ∷ more ≡ named_words other → ⊥
more_named_words read other word more small also same = some_words word more (same_named read other (word ∷ more) [] small also (same ∙ sym (append-nil (named_words other)))).rest

-- a line is told by its words
one_named : (a b : NamedLine) → AreShort (named_numbers a) → AreShort (named_numbers b) → named_words a ≡ named_words b → a ≡ b
one_named a b small also same = (same_named a b [] [] small also (ap (λ (w : List (List ℕ)). w ++ []) same)).line

pub a_text_is_one_named : (text : List ℕ) (a b : NamedLine) → IsNamedLine text a → IsNamedLine text b → a ≡ b
a_text_is_one_named text a b is also = one_named a b is.numbers also.numbers (sym (words_of_named text a is) ∙ words_of_named text b also)

-- a text that begins with a line has that line first
pub lines_of-named_text : (line : NamedLine) (rest : List ℕ) → AreShort (named_numbers line) → lines_of (named_text line ++ rest) ≡ record { text = named_body line; ended = true } ∷ lines_of rest
lines_of-named_text line rest small =
    ap lines_of (append_assoc (named_body line) line_end rest)
    ∙ lines_of-more (named_body line) rest (named_body-no_feed line small)
