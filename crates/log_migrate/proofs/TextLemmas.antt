-- The text of a new log, and the names that it has given, piece by piece.
use Rattle.std.proofs.Common.{◌≡◌, ℕ, ◌+◌, ◌<◌, ◌≤◌, Bool, true, false, cond, List, [], ◌∷◌, ◌++◌, All, Option, Some, None, length, map, position, arith, refl, ap, ap₂, sym, ◌∙◌, subst, append-nil, append_assoc, length-append, inl, inr, ltb}
use Rattle.std.specs.Prelude.{nat_lt, not, flat_map}
use Rattle.std.specs.List.{position_or_len}
use Rattle.std.specs.Str.{bytes_eq}
use Rattle.std.proofs.lemmas.Bool.{cases_Bool, ltb-false, ltb-true}
use Rattle.std.proofs.lemmas.Bool.Decides.{Decides-like, nat_tests, same_from_decides}
use Rattle.std.proofs.lemmas.Grind.{flat_map-append}
use Rattle.std.proofs.lemmas.List.{length-map, map-append}
use Rattle.std.proofs.lemmas.List.Elements.{All-nil, All-cons, All-head, All-tail, All-append}
use Rattle.std.proofs.lemmas.Slice.Eq.{bytes_eq-Decides}
use Rattle.bound_log.specs.CutText.{CutTextOf}
use Rattle.bound_log.specs.Formats.{head_text_in, text_in, texts_in}
use Rattle.bound_log.specs.NamedText.{named_body}
use Rattle.bound_log.specs.declared.log_format.LogFormat.TheVariants.{Second}
use Rattle.bound_log.specs.declared.log_line.LogLine.{LogLine}
use Rattle.bound_log.specs.declared.named_line.NamedLine.{NamedLine}
use Rattle.bound_log.specs.declared.named_line.NamedLine.TheVariants.{Named}
use Rattle.bound_log.proofs.NamedLemmas.{IsNamedLine-body, a_text_is_one_named}
use Rattle.log_migrate.specs.FirstUse.{cuts_needed, cuts_used, first_used, is_same_cut, line_with_names, lines_with_names, named_after, number_among, numbered_line, numbered_share}
use Rattle.log_migrate.specs.NewLog.{Gets, HasLines, HasNamed, IsRefusal, IsShortCut, NumbersSo, cuts_of, more_of, names_text, naming_text}
use Rattle.log_migrate.specs.declared.answer.MigrateAnswer.{MigrateAnswer}
use Rattle.log_migrate.specs.declared.answer.MigrateAnswer.TheVariants.{TooManyCuts, NoMemory}
use Rattle.log_migrate.specs.declared.new_log.NewLog.{NewLog}
use Rattle.log_migrate.proofs.NumberLemmas.{number_kept, number_most, same_cut}
use Rattle.log_migrate.proofs.FirstUseLemmas.{IsKnown, number_one, used_append, used_are_known, used_known, used_new}

-- ---- a name is told by its line

named_same : (a b : CutTextOf) → Named a ≡ Named b → a ≡ b
named_same a b same = cc

same_naming : (a b : CutTextOf) → IsShortCut a → IsShortCut b → naming_text a ≡ naming_text b → a ≡ b
same_naming a b short also same =
    named_same a b (a_text_is_one_named (named_body (Named a)) (Named a) (Named b) (IsNamedLine-body (Named a) short) (record { spelled = same; numbers = also }))

tells : (a b : CutTextOf) → IsShortCut a → IsShortCut b → bytes_eq (naming_text a) (naming_text b) ≡ is_same_cut a b
tells a b short also =
    same_from_decides (bytes_eq (naming_text a) (naming_text b)) (is_same_cut a b)
    (Decides-like (bytes_eq (naming_text a) (naming_text b)) (same_naming a b short also) (λ same. ap naming_text same) (bytes_eq-Decides (naming_text a) (naming_text b)))
    (same_cut a b)

-- a name is looked up among the lines as its cut among the cuts
place_among : (named : List CutTextOf) (cut : CutTextOf) → All IsShortCut named → IsShortCut cut → position_or_len (bytes_eq (naming_text cut)) (map naming_text named) ≡ number_among named cut
place_among [] cut short also = refl
place_among (first ∷ named) cut short also =
    ap₂ (λ (t : Bool) (n : ℕ). cond (not t) (1 + n) 0) (tells cut first also (All-head IsShortCut first named short)) (place_among named cut (All-tail IsShortCut first named short) also)

abbrev place_from : ℕ → ℕ → Option ℕ
place_from number count = cond (nat_lt number count) (Some number) None

lookup : (named : List CutTextOf) (cut : CutTextOf) → All IsShortCut named → IsShortCut cut → position (bytes_eq (naming_text cut)) (map naming_text named) ≡ place_from (number_among named cut) (length named)
lookup named cut short also = ap₂ place_from (place_among named cut short also) (length-map named naming_text)

found_place : (number n count : ℕ) → Some number ≡ place_from n count → (number ≡ n) × (n < count)
found_place number n count is = by (nat_lt n count) refl is
  where
    by : (t : Bool) → nat_lt n count ≡ t → Some number ≡ cond t (Some n) None → (number ≡ n) × (n < count)
    by true t e = (cc e, grind (arith, nat_tests))
    by false t e = absurd (cc e)

no_place : (n count : ℕ) → None ≡ place_from n count → count ≤ n
no_place n count is = by (nat_lt n count) refl is
  where
    by : (t : Bool) → nat_lt n count ≡ t → None ≡ cond t (Some n) None → count ≤ n
    by true t e = absurd (cc e)
    by false t e = grind (arith, nat_tests)

looked_up : (named : List CutTextOf) (cut : CutTextOf) (made : NewLog) (name : List ℕ) → HasNamed named made → IsShortCut cut → name ≡ naming_text cut → position (bytes_eq name) made.names ≡ place_from (number_among named cut) (length named)
looked_up named cut made name has short is = ap₂ (λ (n : List ℕ) (all : List (List ℕ)). position (bytes_eq n) all) is has.names ∙ lookup named cut has.short short

-- the number of a cut that is named
pub record FindsCut (named : List CutTextOf) (cut : CutTextOf) (found : ℕ) : Type 0 where
  pub number : found ≡ number_among named cut
  pub known : IsKnown named cut

pub finds_cut : (named : List CutTextOf) (cut : CutTextOf) (made : NewLog) (name : List ℕ) (number : ℕ) → HasNamed named made → IsShortCut cut → name ≡ naming_text cut → Some number ≡ position (bytes_eq name) made.names → FindsCut named cut number
finds_cut named cut made name number has short is found =
    let at = found_place number (number_among named cut) (length named) (found ∙ looked_up named cut made name has short is) in
    record { number = at.0; known = at.1 }

pub lacks_cut : (named : List CutTextOf) (cut : CutTextOf) (made : NewLog) (name : List ℕ) → HasNamed named made → IsShortCut cut → name ≡ naming_text cut → None ≡ position (bytes_eq name) made.names → length named ≤ number_among named cut
lacks_cut named cut made name has short is missing = no_place (number_among named cut) (length named) (missing ∙ looked_up named cut made name has short is)

-- as many names are given as cuts are named
pub names_long : (named : List CutTextOf) (made : NewLog) → HasNamed named made → length made.names ≡ length named
names_long named made has = ap length has.names ∙ length-map named naming_text

-- ---- one cut

pub gets_none : (named : List CutTextOf) (cut : CutTextOf) (made : NewLog) → HasNamed named made → IsKnown named cut → Gets named (first_used named (cut ∷ [])) (names_text (first_used named (cut ∷ []))) made made
gets_none named cut made has known =
    let none : first_used named (cut ∷ []) ≡ [] = used_known named [] cut known in
    subst (λ (f : List CutTextOf). Gets named f (names_text f) made made) (sym none)
    (record { text = sym (append-nil made.text.items); holds = subst (λ (n : List CutTextOf). HasNamed n made) (sym (append-nil named)) has })

-- one more name
pub named_one : (named : List CutTextOf) (cut : CutTextOf) (before now : NewLog) (name : List ℕ) → HasNamed named before → IsShortCut cut → length named < 65536 → name ≡ naming_text cut → now.names ≡ before.names ++ name ∷ [] →
    HasNamed (named ++ cut ∷ []) now
named_one named cut before now name has short few is put = record {
  names = put ∙ ap₂ (λ (all : List (List ℕ)) (n : List ℕ). all ++ n ∷ []) has.names is ∙ sym (map-append naming_text named (cut ∷ []));
  short = All-append IsShortCut named (cut ∷ []) has.short (All-cons IsShortCut cut [] short (All-nil IsShortCut));
  few = omega (arith, few, length-append named (cut ∷ []));
}

pub gets_one : (named : List CutTextOf) (cut : CutTextOf) (before now : NewLog) (name : List ℕ) → HasNamed named before → IsShortCut cut → length named ≤ number_among named cut → length named < 65536 → name ≡ naming_text cut →
    now.text.items ≡ before.text.items ++ name → now.names ≡ before.names ++ name ∷ [] → Gets named (first_used named (cut ∷ [])) (names_text (first_used named (cut ∷ []))) before now
gets_one named cut before now name has short new few is put given =
    let one : first_used named (cut ∷ []) ≡ cut ∷ [] = used_new named [] cut new in
    subst (λ (f : List CutTextOf). Gets named f (names_text f) before now) (sym one)
    (record {
      text = put ∙ ap (λ (t : List ℕ). before.text.items ++ t) (is ∙ sym (append-nil (naming_text cut)));
      holds = named_one named cut before now name has short few is given;
    })

-- the number that a further cut gets
pub number_next : (named : List CutTextOf) (cut : CutTextOf) → length named ≤ number_among named cut → number_among named cut ≡ length named
number_next named cut new = omega (arith, new, number_most named cut)

-- ---- refusals

pub no_memory : (cuts : List CutTextOf) (why : MigrateAnswer) → why ≡ NoMemory → IsRefusal cuts why
no_memory cuts why is = subst (IsRefusal cuts) (sym is) tt

pub refused_more : (cuts more : List CutTextOf) (why : MigrateAnswer) → length cuts ≤ length more → IsRefusal cuts why → IsRefusal more why
refused_more cuts more TooManyCuts long many = omega (arith, long, many)
refused_more cuts more NoMemory long many = tt

pub refused_full : (named : List CutTextOf) (cut : CutTextOf) → length named ≤ number_among named cut → 65536 ≤ length named → 65536 < length (named ++ first_used named (cut ∷ []))
refused_full named cut new full =
    let one : length (first_used named (cut ∷ [])) ≡ 1 = ap length (used_new named [] cut new) in
    omega (arith, full, one, length-append named (first_used named (cut ∷ [])))

-- ---- the shares of a line

pub numbers_start : (named : List CutTextOf) (all left : List (ℕ × CutTextOf)) (before : NewLog) → left ≡ all → HasNamed named before → NumbersSo named all left [] before before
numbers_start named all left before is has = record {
  done = [];
  parts = sym is;
  numbered = refl;
  gets = record { text = sym (append-nil before.text.items); holds = subst (λ (n : List CutTextOf). HasNamed n before) (sym (append-nil named)) has };
}

-- shares whose cuts are named keep their numbers
numbers_kept : (named more : List CutTextOf) (shares : List (ℕ × CutTextOf)) → All (IsKnown named) (cuts_of shares) → map (numbered_share (named ++ more)) shares ≡ map (numbered_share named) shares
numbers_kept named more [] known = refl
numbers_kept named more (share ∷ shares) known =
    ap₂ (λ (n : ℕ) (rest : List (ℕ × ℕ)). (share.0, n) ∷ rest) (number_kept named more share.1 (All-head (IsKnown named) share.1 (cuts_of shares) known))
    (numbers_kept named more shares (All-tail (IsKnown named) share.1 (cuts_of shares) known))

-- more names, and further ones
pub gets_more : (named one two : List CutTextOf) (s t : List ℕ) (before middle now : NewLog) → Gets named one s before middle → Gets (named ++ one) two t middle now → Gets named (one ++ two) (s ++ t) before now
gets_more named one two s t before middle now first second = record {
  text = second.text ∙ ap (λ (x : List ℕ). x ++ t) first.text ∙ append_assoc before.text.items s t;
  holds = subst (λ (n : List CutTextOf). HasNamed n now) (append_assoc named one two) second.holds;
}

names_more : (one two : List CutTextOf) → names_text one ++ names_text two ≡ names_text (one ++ two)
names_more one two = sym (ap (texts_in Second) (map-append Named one two) ∙ flat_map-append (text_in Second) (map Named one) (map Named two))

used_one_more : (named : List CutTextOf) (done : List (ℕ × CutTextOf)) (share : ℕ × CutTextOf) → more_of named (done ++ share ∷ []) ≡ more_of named done ++ first_used (named ++ more_of named done) (share.1 ∷ [])
used_one_more named done share = ap (first_used named) (map-append (λ (s : ℕ × CutTextOf). s.1) done (share ∷ [])) ∙ used_append named (cuts_of done) (share.1 ∷ [])

pub numbers_next : (named : List CutTextOf) (all left more : List (ℕ × CutTextOf)) (share : ℕ × CutTextOf) (uses uses_now : List (ℕ × ℕ)) (before middle now : NewLog) (number : ℕ) → left ≡ share ∷ more →
    (so : NumbersSo named all left uses before middle) →
    number ≡ number_among (named ++ more_of named so.done) share.1 →
    Gets (named ++ more_of named so.done) (first_used (named ++ more_of named so.done) (share.1 ∷ [])) (names_text (first_used (named ++ more_of named so.done) (share.1 ∷ []))) middle now →
    uses_now ≡ uses ++ (share.0, number) ∷ [] → NumbersSo named all more uses_now before now
numbers_next named all left more share uses uses_now before middle now number is so number_is gets put =
    let done = so.done in
    let old = named ++ more_of named done in
    let further = first_used old (share.1 ∷ []) in
    let later : more_of named (done ++ share ∷ []) ≡ more_of named done ++ further = used_one_more named done share in
    let all_named : named ++ more_of named (done ++ share ∷ []) ≡ old ++ further = ap (λ (f : List CutTextOf). named ++ f) later ∙ sym (append_assoc named (more_of named done) further) in
    let kept : map (numbered_share (old ++ further)) done ≡ map (numbered_share old) done = numbers_kept old further done (used_are_known named (cuts_of done)) in
    let given : number_among (old ++ further) share.1 ≡ number = number_one old share.1 ∙ sym number_is in
    record {
      done = done ++ share ∷ [];
      parts = so.parts ∙ ap (λ (l : List (ℕ × CutTextOf)). done ++ l) is ∙ sym (append_assoc done (share ∷ []) more);
      numbered = put
          ∙ ap (λ (u : List (ℕ × ℕ)). u ++ (share.0, number) ∷ []) (so.numbered ∙ sym kept)
          ∙ ap (λ (n : ℕ). map (numbered_share (old ++ further)) done ++ (share.0, n) ∷ []) (sym given)
          ∙ sym (map-append (numbered_share (old ++ further)) done (share ∷ []))
          ∙ ap (λ (n : List CutTextOf). map (numbered_share n) (done ++ share ∷ [])) (sym all_named);
      gets = subst (λ (f : List CutTextOf). Gets named f (names_text f) before now) (sym later)
          (subst (λ (t : List ℕ). Gets named (more_of named done ++ further) t before now) (names_more (more_of named done) further)
          (gets_more named (more_of named done) further (names_text (more_of named done)) (names_text further) before middle now so.gets gets));
    }

pub numbers_end : (named : List CutTextOf) (all left : List (ℕ × CutTextOf)) (uses : List (ℕ × ℕ)) (before now : NewLog) → left ≡ [] → (so : NumbersSo named all left uses before now) → so.done ≡ all
numbers_end named all left uses before now none so = sym (so.parts ∙ ap (λ (l : List (ℕ × CutTextOf)). so.done ++ l) none ∙ append-nil so.done)

-- a cut of the shares that is too much
pub numbers_refused : (named : List CutTextOf) (all left more : List (ℕ × CutTextOf)) (share : ℕ × CutTextOf) (uses : List (ℕ × ℕ)) (before now : NewLog) (why : MigrateAnswer) → left ≡ share ∷ more → (so : NumbersSo named all left uses before now) →
    IsRefusal ((named ++ more_of named so.done) ++ first_used (named ++ more_of named so.done) (share.1 ∷ [])) why → IsRefusal (named ++ more_of named all) why
numbers_refused named all left more share uses before now why is so refused =
    let done = so.done in
    let old = named ++ more_of named done in
    let further = first_used old (share.1 ∷ []) in
    let front : all ≡ (done ++ share ∷ []) ++ more = so.parts ∙ ap (λ (l : List (ℕ × CutTextOf)). done ++ l) is ∙ sym (append_assoc done (share ∷ []) more) in
    let cuts : cuts_of all ≡ cuts_of (done ++ share ∷ []) ++ cuts_of more = ap cuts_of front ∙ map-append (λ (s : ℕ × CutTextOf). s.1) (done ++ share ∷ []) more in
    let first : more_of named all ≡ more_of named (done ++ share ∷ []) ++ first_used (named ++ more_of named (done ++ share ∷ [])) (cuts_of more) =
    ap (first_used named) cuts ∙ used_append named (cuts_of (done ++ share ∷ [])) (cuts_of more) in
    let rest = first_used (named ++ more_of named (done ++ share ∷ [])) (cuts_of more) in
    refused_more (old ++ further) (named ++ more_of named all) why
    (omega (
      arith,
      ap length first,
      ap length (used_one_more named done share),
      length-append (more_of named (done ++ share ∷ [])) rest,
      length-append (more_of named done) further,
      length-append named (more_of named done),
      length-append old further,
      length-append named (more_of named all),
    ))
    refused

-- ---- a line

pub line_put : (named : List CutTextOf) (line : LogLine) (before middle now : NewLog) → Gets named (first_used named (cuts_used line)) (names_text (first_used named (cuts_used line))) before middle →
    now.text.items ≡ middle.text.items ++ text_in Second (numbered_line (named_after named line) line) → now.names ≡ middle.names →
    Gets named (first_used named (cuts_used line)) (texts_in Second (line_with_names named line)) before now
line_put named line before middle now gets put same =
    let names = map Named (first_used named (cuts_used line)) in
    let numbered = numbered_line (named_after named line) line in
    let all : texts_in Second (line_with_names named line) ≡ texts_in Second names ++ text_in Second numbered =
    flat_map-append (text_in Second) names (numbered ∷ []) ∙ ap (λ (t : List ℕ). texts_in Second names ++ t) (append-nil (text_in Second numbered)) in
    record {
      text = put ∙ ap (λ (t : List ℕ). t ++ text_in Second numbered) gets.text ∙ append_assoc before.text.items (texts_in Second names) (text_in Second numbered)
          ∙ ap (λ (t : List ℕ). before.text.items ++ t) (sym all);
      holds = record { names = same ∙ gets.holds.names; short = gets.holds.short; few = gets.holds.few };
    }

-- a line that uses no cut
pub gets_nothing : (named : List CutTextOf) (made : NewLog) → HasNamed named made → Gets named [] [] made made
gets_nothing named made has = record { text = sym (append-nil made.text.items); holds = subst (λ (n : List CutTextOf). HasNamed n made) (sym (append-nil named)) has }

-- ---- lines

pub lines_start : (made : NewLog) → made.text.items ≡ head_text_in Second → made.names ≡ [] → HasLines [] made
lines_start made text names = record {
  text = text ∙ sym (append-nil (head_text_in Second));
  named = record { names = names; short = All-nil IsShortCut; few = omega arith };
}

lines_append : (named : List CutTextOf) (xs ys : List LogLine) → lines_with_names named (xs ++ ys) ≡ lines_with_names named xs ++ lines_with_names (named ++ first_used named (flat_map cuts_used xs)) ys
lines_append named [] ys = ap (λ (n : List CutTextOf). lines_with_names n ys) (sym (append-nil named))
lines_append named (line ∷ xs) ys =
    let after = named_after named line in
    let rest = flat_map cuts_used xs in
    let same : after ++ first_used after rest ≡ named ++ first_used named (cuts_used line ++ rest) =
    append_assoc named (first_used named (cuts_used line)) (first_used after rest) ∙ ap (λ (f : List CutTextOf). named ++ f) (sym (used_append named (cuts_used line) rest)) in
    ap (λ (l : List NamedLine). line_with_names named line ++ l) (lines_append after xs ys)
    ∙ sym (append_assoc (line_with_names named line) (lines_with_names after xs) (lines_with_names (after ++ first_used after rest) ys))
    ∙ ap (λ (n : List CutTextOf). (line_with_names named line ++ lines_with_names after xs) ++ lines_with_names n ys) same

needed_one_more : (lines : List LogLine) (line : LogLine) → cuts_needed (lines ++ line ∷ []) ≡ cuts_needed lines ++ first_used (cuts_needed lines) (cuts_used line)
needed_one_more lines line =
    ap (first_used []) (flat_map-append cuts_used lines (line ∷ []) ∙ ap (λ (u : List CutTextOf). flat_map cuts_used lines ++ u) (append-nil (cuts_used line)))
    ∙ used_append [] (flat_map cuts_used lines) (cuts_used line)

pub lines_next : (lines : List LogLine) (line : LogLine) (before now : NewLog) → HasLines lines before → Gets (cuts_needed lines) (first_used (cuts_needed lines) (cuts_used line)) (texts_in Second (line_with_names (cuts_needed lines) line)) before now → HasLines (lines ++ line ∷ []) now
lines_next lines line before now has gets =
    let named = cuts_needed lines in
    let all : lines_with_names [] (lines ++ line ∷ []) ≡ lines_with_names [] lines ++ line_with_names named line =
    lines_append [] lines (line ∷ []) ∙ ap (λ (l : List NamedLine). lines_with_names [] lines ++ l) (append-nil (line_with_names named line)) in
    record {
      text = gets.text ∙ ap (λ (t : List ℕ). t ++ texts_in Second (line_with_names named line)) has.text
          ∙ append_assoc (head_text_in Second) (texts_in Second (lines_with_names [] lines)) (texts_in Second (line_with_names named line))
          ∙ ap (λ (t : List ℕ). head_text_in Second ++ t) (sym (ap (texts_in Second) all ∙ flat_map-append (text_in Second) (lines_with_names [] lines) (line_with_names named line)));
      named = subst (λ (n : List CutTextOf). HasNamed n now) (sym (needed_one_more lines line)) gets.holds;
    }

-- a line that needs too many cuts
pub lines_refused : (nodes lines rest : List LogLine) (line : LogLine) (why : MigrateAnswer) → nodes ≡ lines ++ line ∷ rest → IsRefusal (named_after (cuts_needed lines) line) why → IsRefusal (cuts_needed nodes) why
lines_refused nodes lines rest line why is refused =
    let front : nodes ≡ (lines ++ line ∷ []) ++ rest = is ∙ sym (append_assoc lines (line ∷ []) rest) in
    let cuts : flat_map cuts_used nodes ≡ flat_map cuts_used (lines ++ line ∷ []) ++ flat_map cuts_used rest = ap (flat_map cuts_used) front ∙ flat_map-append cuts_used (lines ++ line ∷ []) rest in
    let first : cuts_needed nodes ≡ cuts_needed (lines ++ line ∷ []) ++ first_used (cuts_needed (lines ++ line ∷ [])) (flat_map cuts_used rest) =
    ap (first_used []) cuts ∙ used_append [] (flat_map cuts_used (lines ++ line ∷ [])) (flat_map cuts_used rest) in
    refused_more (named_after (cuts_needed lines) line) (cuts_needed nodes) why
    (omega (arith, ap length first, ap length (needed_one_more lines line), length-append (cuts_needed (lines ++ line ∷ [])) (first_used (cuts_needed (lines ++ line ∷ [])) (flat_map cuts_used rest))))
    refused

-- a number that isn't so large is less
pub not_past : (n : ℕ) → (65536 ≤ n → ⊥) → n < 65536
not_past n small = elim (cases_Bool (ltb n 65536)) [
  | inl is ↦ ltb-true n 65536 is
  | inr not ↦ absurd (small (ltb-false n 65536 not))
]
