-- Texts of either format: a text has one format and one list of lines.
use Rattle.std.proofs.Common.{◌≡◌, ℕ, List, [], ◌∷◌, ◌++◌, All, map, get_or, arith, refl, ap, ap₂, sym, ◌∙◌, subst, append-nil, append_assoc}
use Rattle.std.proofs.lemmas.Grind.{flat_map-append}
use Rattle.std.proofs.lemmas.List.{append_cancel_left}
use Rattle.std.proofs.lemmas.List.Elements.{All-nil, All-cons, All-head, All-tail, All-append}
use Rattle.lent_parts.specs.Pieces.{TextLineOf, lines_of}
use Rattle.bound_log.specs.declared.log_format.LogFormat.{LogFormat}
use Rattle.bound_log.specs.declared.log_format.LogFormat.TheVariants.{First, Second}
use Rattle.bound_log.specs.declared.named_line.NamedLine.{NamedLine}
use Rattle.bound_log.specs.declared.named_line.NamedLine.TheVariants.{Split, Cost, Pivot, Named, UseCut, UseDual}
use Rattle.bound_log.specs.Formats.{BeginsIn, IsShortLine, IsLineIn, LineIn, NextIn, body_in, head_text_in, text_in, text_line_in, texts_in}
use Rattle.bound_log.specs.NamedText.{named_text}
use Rattle.bound_log.proofs.GrammarLemmas.{IsLine-body, a_text_is_one, lines_of-line_text}
use Rattle.bound_log.proofs.NamedLemmas.{IsNamedLine-body, a_text_is_one_named, lines_of-named_text}
use Rattle.bound_log.proofs.TreeLemmas.{some_text}

-- ---- one line

pub IsLineIn-body : (format : LogFormat) (line : LineIn format) → IsShortLine format line → IsLineIn format (body_in format line) line
IsLineIn-body First line small = IsLine-body line small
IsLineIn-body Second line small = IsNamedLine-body line small

pub one_line_in : (format : LogFormat) (text : List ℕ) (a b : LineIn format) → IsLineIn format text a → IsLineIn format text b → a ≡ b
one_line_in First text a b is also = a_text_is_one text a b is also
one_line_in Second text a b is also = a_text_is_one_named text a b is also

-- a text that begins with a line has that line first
pub lines_of-text_in : (format : LogFormat) (line : LineIn format) (rest : List ℕ) → IsShortLine format line → lines_of (text_in format line ++ rest) ≡ text_line_in format line ∷ lines_of rest
lines_of-text_in First line rest small = lines_of-line_text line rest small
lines_of-text_in Second line rest small = lines_of-named_text line rest small

-- a line has at least its LF
some_named_text : (line : NamedLine) (rest : List ℕ) → [] ≡ named_text line ++ rest → ⊥
some_named_text (Split candidate) rest same = absurd (cc)
some_named_text Cost rest same = absurd (cc)
some_named_text (Pivot limit) rest same = absurd (cc)
some_named_text (Named cut) rest same = absurd (cc)
some_named_text (UseCut number) rest same = absurd (cc)
some_named_text (UseDual divisor uses) rest same = absurd (cc)

pub some_text_in : (format : LogFormat) (line : LineIn format) (rest : List ℕ) → [] ≡ text_in format line ++ rest → ⊥
some_text_in First line rest same = some_text line rest same
some_text_in Second line rest same = some_named_text line rest same

-- ---- lines one after another

abbrev first_text : List TextLineOf → List ℕ
first_text [] = []
first_text (line ∷ rest) = line.text

-- what begins with a line begins with no other, and goes on with one text
pub record SameStartIn (format : LogFormat) (a b : LineIn format) (x y : List ℕ) : Type 0 where
  pub line : a ≡ b
  pub rest : x ≡ y

pub same_start_in : (format : LogFormat) (a b : LineIn format) (x y : List ℕ) → IsShortLine format a → IsShortLine format b → text_in format a ++ x ≡ text_in format b ++ y → SameStartIn format a b x y
same_start_in format a b x y small also same =
    let body : body_in format a ≡ body_in format b = ap first_text (sym (lines_of-text_in format a x small) ∙ ap lines_of same ∙ lines_of-text_in format b y also) in
    let line : a ≡ b = one_line_in format (body_in format a) a b (IsLineIn-body format a small) (subst (λ text. IsLineIn format text b) (sym body) (IsLineIn-body format b also)) in
    record { line = line; rest = append_cancel_left (text_in format a) x y (same ∙ ap (λ l. text_in format l ++ y) (sym line)) }

pub texts_in-apart : (format : LogFormat) (xs ys : List (LineIn format)) → All (IsShortLine format) xs → All (IsShortLine format) ys → texts_in format xs ≡ texts_in format ys → xs ≡ ys
texts_in-apart format [] [] small also same = refl
texts_in-apart format [] (y ∷ ys) small also same = absurd (some_text_in format y (texts_in format ys) same)
texts_in-apart format (x ∷ xs) [] small also same = absurd (some_text_in format x (texts_in format xs) (sym same))
texts_in-apart format (x ∷ xs) (y ∷ ys) small also same =
    let start = same_start_in format x y (texts_in format xs) (texts_in format ys) (All-head (IsShortLine format) x xs small) (All-head (IsShortLine format) y ys also) same in
    ap₂ (λ line lines. line ∷ lines) start.line
    (texts_in-apart format xs ys (All-tail (IsShortLine format) x xs small) (All-tail (IsShortLine format) y ys also) start.rest)

-- lines one after another are cut into these lines
pub lines_of-texts_in : (format : LogFormat) (lines : List (LineIn format)) → All (IsShortLine format) lines → lines_of (texts_in format lines) ≡ map (text_line_in format) lines
lines_of-texts_in format [] small = refl
lines_of-texts_in format (line ∷ lines) small =
    lines_of-text_in format line (texts_in format lines) (All-head (IsShortLine format) line lines small)
    ∙ ap (λ rest. text_line_in format line ∷ rest) (lines_of-texts_in format lines (All-tail (IsShortLine format) line lines small))

-- ---- texts that begin with lines

-- the first lines of the formats differ
heads_differ : (x y : List ℕ) → head_text_in First ++ x ≡ head_text_in Second ++ y → ⊥
heads_differ x y same = let digit : 49 ≡ 50 = ap (λ (t : List ℕ). get_or t 12 0) same in absurd (omega (arith, digit))

pub one_format : (a b : LogFormat) (x y : List ℕ) → head_text_in a ++ x ≡ head_text_in b ++ y → a ≡ b
one_format First First x y same = refl
one_format First Second x y same = absurd (heads_differ x y same)
one_format Second First x y same = absurd (heads_differ y x (sym same))
one_format Second Second x y same = refl

-- what a text begins with, each longer text begins with
pub begins_more_in : (format : LogFormat) (text : List ℕ) (lines : List (LineIn format)) (left more : List ℕ) → BeginsIn format text lines left → BeginsIn format (text ++ more) lines (left ++ more)
begins_more_in format text lines left more begins = record {
  spelled = ap (λ (t : List ℕ). t ++ more) begins.spelled
      ∙ append_assoc (head_text_in format) (texts_in format lines ++ left) more
      ∙ ap (λ (t : List ℕ). head_text_in format ++ t) (append_assoc (texts_in format lines) left more);
  numbers = begins.numbers;
}

-- the next line of what is left is one more of the lines before it
pub begins_line_in : (format : LogFormat) (text : List ℕ) (lines : List (LineIn format)) (left rest : List ℕ) (line : LineIn format) → BeginsIn format text lines left → NextIn format left line rest → BeginsIn format text (lines ++ line ∷ []) rest
begins_line_in format text lines left rest line begins next =
    let all : texts_in format (lines ++ line ∷ []) ≡ texts_in format lines ++ text_in format line =
    flat_map-append (text_in format) lines (line ∷ []) ∙ ap (λ (t : List ℕ). texts_in format lines ++ t) (append-nil (text_in format line)) in
    record {
      spelled = begins.spelled
          ∙ ap (λ (t : List ℕ). head_text_in format ++ t)
          (ap (λ (t : List ℕ). texts_in format lines ++ t) next.spelled
          ∙ sym (append_assoc (texts_in format lines) (text_in format line) rest)
          ∙ ap (λ (t : List ℕ). t ++ rest) (sym all));
      numbers = All-append (IsShortLine format) lines (line ∷ []) begins.numbers (All-cons (IsShortLine format) line [] next.numbers (All-nil (IsShortLine format)));
    }

-- a text that begins with lines begins with the first line of a log
pub begins_head_in : (format : LogFormat) (text : List ℕ) (lines : List (LineIn format)) (left : List ℕ) → BeginsIn format text lines left → BeginsIn format text [] (texts_in format lines ++ left)
begins_head_in format text lines left begins = record { spelled = begins.spelled; numbers = All-nil (IsShortLine format) }

-- two readings of a text have one format, and the same text after the first line
pub same_format : (a b : LogFormat) (text : List ℕ) (xs : List (LineIn a)) (ys : List (LineIn b)) (x y : List ℕ) → BeginsIn a text xs x → BeginsIn b text ys y → a ≡ b
same_format a b text xs ys x y first second = one_format a b (texts_in a xs ++ x) (texts_in b ys ++ y) (sym first.spelled ∙ second.spelled)

pub after_head_in : (format : LogFormat) (text : List ℕ) (xs ys : List (LineIn format)) (x y : List ℕ) → BeginsIn format text xs x → BeginsIn format text ys y → texts_in format xs ++ x ≡ texts_in format ys ++ y
after_head_in format text xs ys x y first second =
    append_cancel_left (head_text_in format) (texts_in format xs ++ x) (texts_in format ys ++ y) (sym first.spelled ∙ second.spelled)
