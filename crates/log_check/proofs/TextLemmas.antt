-- Two readings of a text as lines and what is left.
use Rattle.std.proofs.Common.{◌≡◌, ℕ, List, [], ◌∷◌, ◌++◌, All, refl, ap₂, sym, ◌∙◌, append_assoc}
use Rattle.std.proofs.lemmas.List.Elements.{All-head, All-tail}
use Rattle.bound_log.specs.declared.log_format.LogFormat.{LogFormat}
use Rattle.bound_log.specs.Formats.{IsShortLine, LineIn, NextIn, text_in, texts_in}
use Rattle.bound_log.proofs.FormatLemmas.{SameStartIn, same_start_in, some_text_in}

pub one_beginning : (format : LogFormat) (text : List ℕ) (a b : LineIn format) (x y : List ℕ) → NextIn format text a x → NextIn format text b y → SameStartIn format a b x y
one_beginning format text a b x y first second = same_start_in format a b x y first.numbers second.numbers (sym first.spelled ∙ second.spelled)

-- a text that begins with a line isn't empty
pub begins_some : (format : LogFormat) (text : List ℕ) (line : LineIn format) (left : List ℕ) → NextIn format text line left → text ≡ [] → ⊥
begins_some format text line left begins none = some_text_in format line left (sym none ∙ begins.spelled)

-- of two readings one goes further, or they are the same
pub data Order (format : LogFormat) (xs ys : List (LineIn format)) (x y : List ℕ) : Type 0 where
  same : xs ≡ ys → x ≡ y → Order format xs ys x y
  further : (line : LineIn format) (more : List (LineIn format)) (left : List ℕ) → ys ≡ xs ++ line ∷ more → NextIn format x line left → Order format xs ys x y
  behind : (line : LineIn format) (more : List (LineIn format)) (left : List ℕ) → xs ≡ ys ++ line ∷ more → NextIn format y line left → Order format xs ys x y

one_more : (format : LogFormat) (a b : LineIn format) (xs ys : List (LineIn format)) (x y : List ℕ) → a ≡ b → Order format xs ys x y → Order format (a ∷ xs) (b ∷ ys) x y
one_more format a b xs ys x y is (same lines texts) = same (ap₂ (λ (l : LineIn format) (ls : List (LineIn format)). l ∷ ls) is lines) texts
one_more format a b xs ys x y is (further line more left lines begins) = further line more left (ap₂ (λ (l : LineIn format) (ls : List (LineIn format)). l ∷ ls) (sym is) lines) begins
one_more format a b xs ys x y is (behind line more left lines begins) = behind line more left (ap₂ (λ (l : LineIn format) (ls : List (LineIn format)). l ∷ ls) is lines) begins

pub order : (format : LogFormat) (xs ys : List (LineIn format)) (x y : List ℕ) → All (IsShortLine format) xs → All (IsShortLine format) ys → texts_in format xs ++ x ≡ texts_in format ys ++ y → Order format xs ys x y
order format [] [] x y small also is = same refl is
order format [] (b ∷ ys) x y small also is =
    further b ys (texts_in format ys ++ y) refl (record { spelled = is ∙ append_assoc (text_in format b) (texts_in format ys) y; numbers = All-head (IsShortLine format) b ys also })
order format (a ∷ xs) [] x y small also is =
    behind a xs (texts_in format xs ++ x) refl (record { spelled = sym is ∙ append_assoc (text_in format a) (texts_in format xs) x; numbers = All-head (IsShortLine format) a xs small })
order format (a ∷ xs) (b ∷ ys) x y small also is =
    let start = same_start_in format a b (texts_in format xs ++ x) (texts_in format ys ++ y) (All-head (IsShortLine format) a xs small) (All-head (IsShortLine format) b ys also)
    (sym (append_assoc (text_in format a) (texts_in format xs) x) ∙ is ∙ append_assoc (text_in format b) (texts_in format ys) y) in
    one_more format a b xs ys x y start.line (order format xs ys x y (All-tail (IsShortLine format) a xs small) (All-tail (IsShortLine format) b ys also) start.rest)
