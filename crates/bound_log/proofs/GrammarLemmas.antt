-- Lines, their texts and their words.
use Rattle.std.proofs.Common.{◌≡◌, ◌==◌, if◌then◌else◌, ℕ, ◌<◌, true, false, List, [], ◌∷◌, ◌++◌, map, All, arith, refl, ap, ap₂, sym, ◌∙◌, append-nil, append_assoc}
use Rattle.std.specs.Fmt.{decimal}
use Rattle.std.specs.Int.{IsInRange}
use Rattle.std.specs.List.{join_with_byte}
use Rattle.std.specs.Str.Parse.{digits_value}
use Rattle.std.proofs.lemmas.Bool.{ne_eqb}
use Rattle.std.proofs.lemmas.List.{same_from_push}
use Rattle.std.proofs.lemmas.List.Elements.{All-append, All-nil, All-cons, All-head, All-tail, All-weaker}
use Rattle.lent_parts.specs.Pieces.{is_space, space, is_line_feed, tokens_of, lines_of}
use Rattle.lent_parts.proofs.PieceLemmas.{tokens_of-joined, tokens_of-only, lines_of-more}
use Rattle.bound_log.specs.Grammar.{number_bound, HasNumbersBelow, IsLine, text_line}
use Rattle.bound_log.specs.LogLines.{words_of, WordsBeginWith}
use Rattle.bound_log.specs.LogText.{line_words, line_body, line_text, line_end, lines_text}
use Rattle.bound_log.specs.declared.log_leaf.LogLeaf.TheVariants.{Cost, Pivot, Cut, Dual}
use Rattle.bound_log.specs.declared.log_line.LogLine.{LogLine}
use Rattle.bound_log.specs.declared.log_line.LogLine.TheVariants.{Split, Leaf}
use Rattle.bound_log.specs.CutReading.{after_cut, cut_in}
use Rattle.bound_log.specs.CutText.{CutTextOf, cut_numbers, cut_words}
use Rattle.bound_log.specs.DualText.{dual_numbers, dual_words}
use Rattle.bound_log.specs.Numbers.{AreShort}
use Rattle.bound_log.proofs.CutLemmas.{cut_bytes, cut_reads}
use Rattle.bound_log.proofs.DualLemmas.{dual_bytes, share_kind}
use Rattle.bound_log.proofs.ItemLemmas.{some_words, after_head, head_items, head_number, head_reads}
use Rattle.bound_log.proofs.NumberLemmas.{decimal-bytes, decimal-value}

-- ---- bytes that no word has

abbrev pub NoSpace : ℕ → Type 0
NoSpace c = is_space c ≡ false

abbrev pub NoFeed : ℕ → Type 0
NoFeed c = is_line_feed c ≡ false

number_no_space : (n : ℕ) → n < number_bound → All NoSpace (decimal n)
number_no_space n small = All-weaker (IsInRange 48 57) NoSpace (λ c digit. ne_eqb c 32 (λ same. omega (arith, digit.0))) (decimal n) (decimal-bytes n small)

number_no_feed : (n : ℕ) → n < number_bound → All NoFeed (decimal n)
number_no_feed n small = All-weaker (IsInRange 48 57) NoFeed (λ c digit. ne_eqb c 10 (λ same. omega (arith, digit.0))) (decimal n) (decimal-bytes n small)

-- a word of one byte
pub one_byte : (P : ℕ → Type 0) (c : ℕ) → P c → All P (c ∷ [])
one_byte P c holds = All-cons P c [] holds (All-nil P)

-- a kind and one number
pub pair_no_space : (kind n : ℕ) → NoSpace kind → n < number_bound → All (All NoSpace) ((kind ∷ []) ∷ decimal n ∷ [])
pair_no_space kind n alone small =
    All-cons (All NoSpace) (kind ∷ []) (decimal n ∷ []) (one_byte NoSpace kind alone)
    (All-cons (All NoSpace) (decimal n) [] (number_no_space n small) (All-nil (All NoSpace)))

pub pair_no_feed : (kind n : ℕ) → NoFeed kind → n < number_bound → All NoFeed (kind ∷ 32 ∷ decimal n)
pair_no_feed kind n alone small =
    All-cons NoFeed kind (32 ∷ decimal n) alone (All-cons NoFeed 32 (decimal n) refl (number_no_feed n small))

-- words of which none has a byte are joined without it
pub joined_words : (P : ℕ → Type 0) (c : ℕ) (words : List (List ℕ)) → P c → All (All P) words → All P (join_with_byte c words)
joined_words P c [] between each = All-nil P
joined_words P c (word ∷ []) between each = All-head (All P) word [] each
joined_words P c (word ∷ next ∷ words) between each =
    All-append P word (c ∷ join_with_byte c (next ∷ words)) (All-head (All P) word (next ∷ words) each)
    (All-cons P c (join_with_byte c (next ∷ words)) between (joined_words P c (next ∷ words) between (All-tail (All P) word (next ∷ words) each)))

pub cut_no_space : (cut : CutTextOf) → AreShort (cut_numbers cut) → All (All NoSpace) (cut_words cut)
cut_no_space cut short = cut_bytes NoSpace (λ c digit. ne_eqb c 32 (λ same. omega (arith, digit.0))) refl cut short

pub cut_no_feed : (cut : CutTextOf) → AreShort (cut_numbers cut) → All (All NoFeed) (cut_words cut)
cut_no_feed cut short = cut_bytes NoFeed (λ c digit. ne_eqb c 10 (λ same. omega (arith, digit.0))) refl cut short

dual_no_space : (divisor : ℕ) (shares : List (ℕ × CutTextOf)) → AreShort (dual_numbers divisor shares) → All (All NoSpace) (dual_words divisor shares)
dual_no_space divisor shares short = dual_bytes NoSpace (λ c digit. ne_eqb c 32 (λ same. omega (arith, digit.0))) refl divisor shares short

dual_no_feed : (divisor : ℕ) (shares : List (ℕ × CutTextOf)) → AreShort (dual_numbers divisor shares) → All (All NoFeed) (dual_words divisor shares)
dual_no_feed divisor shares short = dual_bytes NoFeed (λ c digit. ne_eqb c 10 (λ same. omega (arith, digit.0))) refl divisor shares short

pub line_body-no_feed : (line : LogLine) → HasNumbersBelow number_bound line → All NoFeed (line_body line)
line_body-no_feed (Split candidate) small = pair_no_feed 115 candidate refl small.0
line_body-no_feed (Leaf Cost) small = one_byte NoFeed 99 refl
line_body-no_feed (Leaf (Pivot limit)) small = pair_no_feed 112 limit refl small.0
line_body-no_feed (Leaf (Cut cut)) small =
    joined_words NoFeed 32 ((120 ∷ []) ∷ cut_words cut) refl (All-cons (All NoFeed) (120 ∷ []) (cut_words cut) (one_byte NoFeed 120 refl) (cut_no_feed cut small))
line_body-no_feed (Leaf (Dual divisor shares)) small =
    joined_words NoFeed 32 ((100 ∷ []) ∷ dual_words divisor shares) refl
    (All-cons (All NoFeed) (100 ∷ []) (dual_words divisor shares) (one_byte NoFeed 100 refl) (dual_no_feed divisor shares small))

-- ---- texts of lines

-- a text in the grammar is the line without its LF
pub body_of : (text : List ℕ) (line : LogLine) → IsLine text line → text ≡ line_body line
body_of text line is = (same_from_push text (line_body line) 10 10 is.spelled).0

pub IsLine-body : (line : LogLine) → HasNumbersBelow number_bound line → IsLine (line_body line) line
IsLine-body line small = record { spelled = refl; numbers = small }

-- ---- words of lines

-- the words of a text in the grammar
pub words_of_line : (text : List ℕ) (line : LogLine) → IsLine text line → words_of (tokens_of text) ≡ line_words line
words_of_line text (Split candidate) is =
    tokens_of-only text (115 ∷ []) (decimal candidate ∷ []) (pair_no_space 115 candidate refl is.numbers.0) (body_of text (Split candidate) is)
words_of_line text (Leaf Cost) is =
    tokens_of-only text (99 ∷ []) [] (All-cons (All NoSpace) (99 ∷ []) [] (one_byte NoSpace 99 refl) (All-nil (All NoSpace))) (body_of text (Leaf Cost) is)
words_of_line text (Leaf (Pivot limit)) is =
    tokens_of-only text (112 ∷ []) (decimal limit ∷ []) (pair_no_space 112 limit refl is.numbers.0) (body_of text (Leaf (Pivot limit)) is)
words_of_line text (Leaf (Cut cut)) is =
    tokens_of-only text (120 ∷ []) (cut_words cut)
    (All-cons (All NoSpace) (120 ∷ []) (cut_words cut) (one_byte NoSpace 120 refl) (cut_no_space cut is.numbers)) (body_of text (Leaf (Cut cut)) is)
words_of_line text (Leaf (Dual divisor shares)) is =
    tokens_of-only text (100 ∷ []) (dual_words divisor shares)
    (All-cons (All NoSpace) (100 ∷ []) (dual_words divisor shares) (one_byte NoSpace 100 refl) (dual_no_space divisor shares is.numbers)) (body_of text (Leaf (Dual divisor shares)) is)

pub begins_of_line : (text : List ℕ) (line : LogLine) → IsLine text line → WordsBeginWith (words_of (tokens_of text)) line []
begins_of_line text line is = record { spelled = words_of_line text line is ∙ sym (append-nil (line_words line)); numbers = is.numbers }

-- a text with the words of a line and no others
pub line_of_words : (text : List ℕ) (line : LogLine) (after : List (List ℕ)) → WordsBeginWith (words_of (tokens_of text)) line after → after ≡ [] → IsLine text line
line_of_words text line after begins none =
    let words : words_of (tokens_of text) ≡ line_words line = begins.spelled ∙ ap (λ more. line_words line ++ more) none ∙ append-nil (line_words line) in
    record {
      spelled = ap (λ body. body ++ line_end) (sym (tokens_of-joined text) ∙ ap (join_with_byte space) words);
      numbers = begins.numbers;
    }

-- ---- lines are told by their words

abbrev pub first_word : List (List ℕ) → List ℕ
first_word [] = []
first_word (word ∷ words) = word

abbrev pub later_words : List (List ℕ) → List (List ℕ)
later_words [] = []
later_words (word ∷ words) = words

-- the line of this kind that words may be of, where a kind is the byte of the word before them, and the words after it
abbrev line_as : ℕ → List (List ℕ) → LogLine
line_as kind words =
    if kind == 115 then Split (digits_value 10 (first_word words))
    else (if kind == 112 then Leaf (Pivot (digits_value 10 (first_word words)))
    else (if kind == 120 then Leaf (Cut (cut_in words))
    else (if kind == 100 then Leaf (Dual (head_number words) (head_items share_kind words)) else Leaf Cost)))

abbrev after_as : ℕ → List (List ℕ) → List (List ℕ)
after_as kind words =
    if kind == 115 then later_words words
    else (if kind == 112 then later_words words
    else (if kind == 120 then after_cut words
    else (if kind == 100 then after_head share_kind words else words)))

-- the line that words may begin with, and the words after it
abbrev pub line_in : List (List ℕ) → LogLine
line_in [] = Leaf Cost
line_in ([] ∷ words) = Leaf Cost
line_in ((kind ∷ more) ∷ words) = line_as kind words

abbrev after_line : List (List ℕ) → List (List ℕ)
after_line [] = []
after_line ([] ∷ words) = words
after_line ((kind ∷ more) ∷ words) = after_as kind words

-- words that begin with a line begin with no other
pub record ReadsLine (line : LogLine) (rest : List (List ℕ)) : Type 0 where
  pub line_is : line ≡ line_in (line_words line ++ rest)
  pub after_is : rest ≡ after_line (line_words line ++ rest)

pub reads_line : (line : LogLine) (rest : List (List ℕ)) → HasNumbersBelow number_bound line → ReadsLine line rest
reads_line (Split candidate) rest small = record { line_is = ap Split (sym (decimal-value candidate small.0)); after_is = refl }
reads_line (Leaf Cost) rest small = record { line_is = refl; after_is = refl }
reads_line (Leaf (Pivot limit)) rest small = record { line_is = ap (λ l. Leaf (Pivot l)) (sym (decimal-value limit small.0)); after_is = refl }
reads_line (Leaf (Cut cut)) rest small =
    let reads = cut_reads (cut_words cut ++ rest) cut rest (record { spelled = refl; short = small }) in
    record { line_is = ap (λ (c : CutTextOf). Leaf (Cut c)) reads.0; after_is = reads.1 }
reads_line (Leaf (Dual divisor shares)) rest small =
    let reads = head_reads share_kind divisor shares rest small in
    record { line_is = ap₂ (λ (d : ℕ) (s : List (ℕ × CutTextOf)). Leaf (Dual d s)) reads.number_is reads.items_are; after_is = reads.after_is }

record SameLine (a b : LogLine) (x y : List (List ℕ)) : Type 0 where
  line : a ≡ b
  rest : x ≡ y

same_line : (a b : LogLine) (x y : List (List ℕ)) → HasNumbersBelow number_bound a → HasNumbersBelow number_bound b → line_words a ++ x ≡ line_words b ++ y → SameLine a b x y
same_line a b x y small also same =
    let one = reads_line a x small in
    let two = reads_line b y also in
    record { line = one.line_is ∙ ap line_in same ∙ sym two.line_is; rest = one.after_is ∙ ap after_line same ∙ sym two.after_is }

-- the words of a line and more are those of no line
pub more_words : (read other : LogLine) (word : List ℕ) (more : List (List ℕ)) → HasNumbersBelow number_bound read → HasNumbersBelow number_bound other →
    line_words read ++ word ∷ more ≡ line_words other → ⊥
more_words read other word more small also same = some_words word more (same_line read other (word ∷ more) [] small also (same ∙ sym (append-nil (line_words other)))).rest

-- a line is told by its words
pub one_line : (a b : LogLine) → HasNumbersBelow number_bound a → HasNumbersBelow number_bound b → line_words a ≡ line_words b → a ≡ b
one_line a b small also same = (same_line a b [] [] small also (ap (λ (w : List (List ℕ)). w ++ []) same)).line

pub a_text_is_one : (text : List ℕ) (a b : LogLine) → IsLine text a → IsLine text b → a ≡ b
a_text_is_one text a b is also = one_line a b is.numbers also.numbers (sym (words_of_line text a is) ∙ words_of_line text b also)

-- a text that begins with a line has that line first
pub lines_of-line_text : (line : LogLine) (rest : List ℕ) → HasNumbersBelow number_bound line → lines_of (line_text line ++ rest) ≡ record { text = line_body line; ended = true } ∷ lines_of rest
lines_of-line_text line rest small =
    ap lines_of (append_assoc (line_body line) line_end rest)
    ∙ lines_of-more (line_body line) rest (line_body-no_feed line small)

-- lines one after another are cut into these lines
pub lines_of-lines_text : (lines : List LogLine) → All (HasNumbersBelow number_bound) lines → lines_of (lines_text lines) ≡ map text_line lines
lines_of-lines_text [] small = refl
lines_of-lines_text (line ∷ lines) small =
    lines_of-line_text line (lines_text lines) (All-head (HasNumbersBelow number_bound) line lines small)
    ∙ ap (λ rest. text_line line ∷ rest) (lines_of-lines_text lines (All-tail (HasNumbersBelow number_bound) line lines small))
