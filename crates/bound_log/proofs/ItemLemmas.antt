-- What is spelled by words, one after another: pairs of a cut, shares of a dual bound.
use Rattle.std.proofs.Common.{◌≡◌, ℕ, zero, suc, ◌+◌, ◌-◌, ◌<◌, ◌≤◌, List, [], ◌∷◌, ◌++◌, length, length-append, Option, Some, None, IfSome, IfNone, MatchOption, append-nil, append_assoc, arith, refl, ap, ap₂, sym, ◌∙◌, subst, All}
use Rattle.std.specs.Prelude.{flat_map}
use Rattle.std.proofs.lemmas.Grind.{flat_map-append}
use Rattle.std.specs.Fmt.{decimal}
use Rattle.std.specs.Str.Parse.{digits_value}
use Rattle.std.specs.Int.{IsInRange}
use Rattle.std.proofs.lemmas.List.Elements.{All-nil, All-cons, All-append, All-weaker}
use Rattle.lent_parts.specs.Pieces.{TokenOf}
use Rattle.lent_parts.specs.Pieces.{words_of}
use Rattle.bound_log.specs.Numbers.{AreShort, IsNumberText, number_bound}
use Rattle.bound_log.specs.Reading.{BeginsWithItem, ManyBegin, after_items, items_in}
use Rattle.bound_log.proofs.NumberLemmas.{decimal-apart, decimal-value, decimal-bytes}

-- ---- short numbers

pub short_both : (xs ys : List ℕ) → AreShort xs → AreShort ys → AreShort (xs ++ ys)
short_both [] ys first second = second
short_both (x ∷ xs) ys first second = (first.0, short_both xs ys first.1 second)

pub short_first : (xs ys : List ℕ) → AreShort (xs ++ ys) → AreShort xs
short_first [] ys short = tt
short_first (x ∷ xs) ys short = (short.0, short_first xs ys short.1)

pub short_rest : (xs ys : List ℕ) → AreShort (xs ++ ys) → AreShort ys
short_rest [] ys short = short
short_rest (x ∷ xs) ys short = short_rest xs ys short.1

-- words aren't none
pub some_words : (first : List ℕ) (rest : List (List ℕ)) → first ∷ rest ≡ [] → ⊥
some_words first rest is = absurd (cc)

-- ---- kinds of items

-- items of a kind: their words and numbers, the item at the front of words and the words after it, that it is the only one
-- there, and that it has a word
pub record Kind (X : Type 0) : Type 0 where
  pub words : X → List (List ℕ)
  pub numbers : X → List ℕ
  pub read : List (List ℕ) → X
  pub after : List (List ℕ) → List (List ℕ)
  pub reads : (front : List (List ℕ)) (item : X) (rest : List (List ℕ)) → BeginsWithItem words numbers front item rest → (item ≡ read front) × (rest ≡ after front)
  pub some : (item : X) (rest : List (List ℕ)) → words item ++ rest ≡ [] → ⊥

abbrev pub OneBegins : {X : Type 0} → Kind X → List (List ℕ) → X → List (List ℕ) → Type 0
OneBegins kind front item rest = BeginsWithItem kind.words kind.numbers front item rest

abbrev pub SomeBegin : {X : Type 0} → Kind X → ℕ → List (List ℕ) → List X → List (List ℕ) → Type 0
SomeBegin kind count front items rest = ManyBegin kind.words kind.numbers count front items rest

abbrev pub read_items : {X : Type 0} → Kind X → ℕ → List (List ℕ) → List X
read_items kind count front = items_in kind.read kind.after count front

abbrev pub after_read : {X : Type 0} → Kind X → ℕ → List (List ℕ) → List (List ℕ)
after_read kind count front = after_items kind.after count front

abbrev pub CanReadItems : {X : Type 0} → Kind X → ℕ → List (List ℕ) → Type 0
CanReadItems kind count front = SomeBegin kind count front (read_items kind count front) (after_read kind count front)

-- ---- items are read from their words

-- so many items at the front of words are the items that are read there
pub record ReadsItems {X : Type 0} (kind : Kind X) (count : ℕ) (front : List (List ℕ)) (items : List X) (rest : List (List ℕ)) : Type 0 where
  pub items_are : items ≡ read_items kind count front
  pub after_is : rest ≡ after_read kind count front

read_front : {X : Type 0} (kind : Kind X) (items : List X) (rest : List (List ℕ)) → AreShort (flat_map kind.numbers items) → ReadsItems kind (length items) (flat_map kind.words items ++ rest) items rest
read_front kind [] rest short = record { items_are = refl; after_is = refl }
read_front kind (item ∷ items) rest short =
    let front = flat_map kind.words (item ∷ items) ++ rest in
    let middle = flat_map kind.words items ++ rest in
    let later = read_front kind items rest (short_rest (kind.numbers item) (flat_map kind.numbers items) short) in
    let first = kind.reads front item middle (record {
      spelled = append_assoc (kind.words item) (flat_map kind.words items) rest;
      short = short_first (kind.numbers item) (flat_map kind.numbers items) short;
    }) in
    record {
      items_are = ap₂ (λ x xs. x ∷ xs) first.0 (later.items_are ∙ ap (read_items kind (length items)) first.1);
      after_is = later.after_is ∙ ap (after_read kind (length items)) first.1;
    }

pub reads_items : {X : Type 0} (kind : Kind X) (count : ℕ) (front : List (List ℕ)) (items : List X) (rest : List (List ℕ)) → SomeBegin kind count front items rest → ReadsItems kind count front items rest
reads_items kind count front items rest begins =
    let read = read_front kind items rest begins.short in
    subst (λ (n : ℕ). ReadsItems kind n front items rest) begins.counted
    (subst (λ (w : List (List ℕ)). ReadsItems kind (length items) w items rest) (sym begins.spelled) read)

-- what is read there is at the front
pub can_read : {X : Type 0} (kind : Kind X) (count : ℕ) (front : List (List ℕ)) (items : List X) (rest : List (List ℕ)) → SomeBegin kind count front items rest → CanReadItems kind count front
can_read kind count front items rest begins =
    let reads = reads_items kind count front items rest begins in
    subst (λ is. SomeBegin kind count front is (after_read kind count front)) reads.items_are
    (subst (λ (w : List (List ℕ)). SomeBegin kind count front items w) reads.after_is begins)

-- ---- items one by one

-- no items are at the front of any words
pub none_begin : {X : Type 0} (kind : Kind X) (front : List (List ℕ)) → SomeBegin kind 0 front [] front
none_begin kind front = record { counted = refl; spelled = refl; short = tt }

-- one more item after others
pub items_then : {X : Type 0} (kind : Kind X) (count : ℕ) (front middle rest : List (List ℕ)) (items : List X) (item : X) → SomeBegin kind count front items middle → OneBegins kind middle item rest →
    SomeBegin kind (count + 1) front (items ++ item ∷ []) rest
items_then kind count front middle rest items item begins next =
    let words_are : flat_map kind.words (items ++ item ∷ []) ≡ flat_map kind.words items ++ kind.words item =
    flat_map-append kind.words items (item ∷ []) ∙ ap (λ w. flat_map kind.words items ++ w) (append-nil (kind.words item)) in
    let numbers_are : flat_map kind.numbers (items ++ item ∷ []) ≡ flat_map kind.numbers items ++ kind.numbers item =
    flat_map-append kind.numbers items (item ∷ []) ∙ ap (λ w. flat_map kind.numbers items ++ w) (append-nil (kind.numbers item)) in
    let long : length (items ++ item ∷ []) ≡ length items + 1 = length-append items (item ∷ []) in
    record {
      counted = long ∙ ap (λ n. n + 1) begins.counted;
      spelled = begins.spelled ∙ ap (λ (w : List (List ℕ)). flat_map kind.words items ++ w) next.spelled
          ∙ sym (append_assoc (flat_map kind.words items) (kind.words item) rest)
          ∙ ap (λ (w : List (List ℕ)). w ++ rest) (sym words_are);
      short = subst AreShort (sym numbers_are) (short_both (flat_map kind.numbers items) (kind.numbers item) begins.short next.short);
    }

-- one item before others
pub item_then : {X : Type 0} (kind : Kind X) (count : ℕ) (front middle rest : List (List ℕ)) (item : X) (items : List X) → OneBegins kind front item middle → SomeBegin kind count middle items rest →
    SomeBegin kind (suc count) front (item ∷ items) rest
item_then kind count front middle rest item items one more = record {
  counted = ap suc more.counted;
  spelled = one.spelled ∙ ap (λ (w : List (List ℕ)). kind.words item ++ w) more.spelled ∙ sym (append_assoc (kind.words item) (flat_map kind.words items) rest);
  short = short_both (kind.numbers item) (flat_map kind.numbers items) one.short more.short;
}

-- some items at the front of words
pub record HasItems {X : Type 0} (kind : Kind X) (count : ℕ) (front : List (List ℕ)) : Type 0 where
  pub items : List X
  pub rest : List (List ℕ)
  pub begins : SomeBegin kind count front items rest

-- where more than no items are at the front, one is, and the others are after it
pub record FirstItem {X : Type 0} (kind : Kind X) (count : ℕ) (front : List (List ℕ)) : Type 0 where
  pub item : X
  pub rest : List (List ℕ)
  pub first : OneBegins kind front item rest
  pub others : HasItems kind count rest

by_items : {X : Type 0} (kind : Kind X) (count : ℕ) (front : List (List ℕ)) (items : List X) (rest : List (List ℕ)) → SomeBegin kind (suc count) front items rest → FirstItem kind count front
by_items kind count front [] rest begins = absurd (omega (arith, begins.counted))
by_items kind count front (item ∷ items) rest begins = record {
  item = item;
  rest = flat_map kind.words items ++ rest;
  first = record {
    spelled = begins.spelled ∙ append_assoc (kind.words item) (flat_map kind.words items) rest;
    short = short_first (kind.numbers item) (flat_map kind.numbers items) begins.short;
  };
  others = record {
    items = items;
    rest = rest;
    begins = record { counted = omega (arith, begins.counted); spelled = refl; short = short_rest (kind.numbers item) (flat_map kind.numbers items) begins.short };
  };
}

pub first_item : {X : Type 0} (kind : Kind X) (count : ℕ) (front : List (List ℕ)) → HasItems kind (suc count) front → FirstItem kind count front
first_item kind count front has = by_items kind count front has.items has.rest has.begins

-- an item at the front of words is the only one, and goes on with one list of words
pub one_item : {X : Type 0} (kind : Kind X) (front : List (List ℕ)) (a b : X) (x y : List (List ℕ)) → OneBegins kind front a x → OneBegins kind front b y → (a ≡ b) × (x ≡ y)
one_item kind front a b x y first second =
    let one = kind.reads front a x first in
    let two = kind.reads front b y second in
    (one.0 ∙ sym two.0, one.1 ∙ sym two.1)

-- after the first of more than no items the others are
others_after : {X : Type 0} (kind : Kind X) (count : ℕ) (front rest : List (List ℕ)) (item : X) → HasItems kind (suc count) front → OneBegins kind front item rest → HasItems kind count rest
others_after kind count front rest item has found =
    let first = first_item kind count front has in
    let same = one_item kind front first.item item first.rest rest first.first found in
    subst (λ (w : List (List ℕ)). HasItems kind count w) same.1 first.others

-- ---- what a walk over items gives

pub record NextReads {X : Type 0} (kind : Kind X) (left : ℕ) (front rest : List (List ℕ)) (result : Option X) : Type 0 where
  pub reads : CanReadItems kind (left - 1) rest
  pub steps : MatchOption result ((read_items kind left front ≡ []) × (read_items kind (left - 1) rest ≡ [])) (λ item. read_items kind left front ≡ item ∷ read_items kind (left - 1) rest)

pub next_reads : {X : Type 0} (kind : Kind X) (left : ℕ) (front rest : List (List ℕ)) (result : Option X) → (left ≡ 0 → ⊥) → CanReadItems kind left front →
    IfSome result (λ item. OneBegins kind front item rest) → IfNone result ((item : X) (more : List (List ℕ)) → OneBegins kind front item more → ⊥) → NextReads kind left front rest result
next_reads kind zero front rest result some reads found missing = absurd (some refl)
next_reads kind (suc n) front rest None some reads found missing =
    let first = first_item kind n front (record { items = read_items kind (suc n) front; rest = after_read kind (suc n) front; begins = reads }) in
    absurd (missing first.item first.rest first.first)
next_reads kind (suc n) front rest (Some item) some reads found missing =
    let others = others_after kind n front rest item (record { items = read_items kind (suc n) front; rest = after_read kind (suc n) front; begins = reads }) found in
    let whole = item_then kind n front rest others.rest item others.items found others.begins in
    let later = reads_items kind n rest others.items others.rest others.begins in
    let less : suc n - 1 ≡ n = omega arith in
    record {
      reads = subst (λ (m : ℕ). CanReadItems kind m rest) (sym less) (can_read kind n rest others.items others.rest others.begins);
      steps = sym (reads_items kind (suc n) front (item ∷ others.items) others.rest whole).items_are ∙ ap (λ xs. item ∷ xs) (later.items_are ∙ ap (λ (m : ℕ). read_items kind m rest) (sym less));
    }

-- ---- so many items, one after another

-- of so many items these are left to take: those before are taken, and where all were there, so are these
pub record Took {X : Type 0} (kind : Kind X) (count left : ℕ) (front now : List (List ℕ)) : Type 0 where
  pub items : List X
  pub taken : SomeBegin kind (count - left) front items now
  pub fewer : left ≤ count
  pub others : HasItems kind count front → HasItems kind left now

pub took_none : {X : Type 0} (kind : Kind X) (count : ℕ) (front : List (List ℕ)) → Took kind count count front front
took_none kind count front =
    let none : count - count ≡ 0 = omega arith in
    record { items = []; taken = subst (λ (n : ℕ). SomeBegin kind n front [] front) (sym none) (none_begin kind front); fewer = omega arith; others = λ has. has }

pub took_one : {X : Type 0} (kind : Kind X) (count left : ℕ) (front middle now : List (List ℕ)) (item : X) → 0 < left → Took kind count left front middle → OneBegins kind middle item now → Took kind count (left - 1) front now
took_one kind count left front middle now item some took next =
    let within : left ≤ count = took.fewer in
    let more : count - left + 1 ≡ count - (left - 1) = omega arith in
    let last : left ≡ suc (left - 1) = omega arith in
    record {
      items = took.items ++ item ∷ [];
      taken = subst (λ (n : ℕ). SomeBegin kind n front (took.items ++ item ∷ []) now) more (items_then kind (count - left) front middle now took.items item took.taken next);
      fewer = omega arith;
      others = λ has. others_after kind (left - 1) middle now item (subst (λ (n : ℕ). HasItems kind n middle) last (took.others has)) next;
    }

pub took_all : {X : Type 0} (kind : Kind X) (count left : ℕ) (front now : List (List ℕ)) → left ≡ 0 → Took kind count left front now → SomeBegin kind count front (read_items kind count front) now
took_all kind count left front now none took =
    let all : count - left ≡ count = omega (arith, none) in
    let begins = subst (λ (n : ℕ). SomeBegin kind n front took.items now) all took.taken in
    subst (λ xs. SomeBegin kind count front xs now) (reads_items kind count front took.items now begins).items_are begins

pub took_missing : {X : Type 0} (kind : Kind X) (count left : ℕ) (front now : List (List ℕ)) → 0 < left → Took kind count left front now → ((item : X) (rest : List (List ℕ)) → OneBegins kind now item rest → ⊥) →
    (items : List X) (rest : List (List ℕ)) → SomeBegin kind count front items rest → ⊥
took_missing kind count left front now some took missing items rest begins =
    let last : left ≡ suc (left - 1) = omega arith in
    let first = first_item kind (left - 1) now (subst (λ (n : ℕ). HasItems kind n now) last (took.others (record { items = items; rest = rest; begins = begins }))) in
    missing first.item first.rest first.first

-- ---- items of the text that is left

-- the words of the text that is left, where there are some, and of no text else
pub record LeftWords (words spelled : List (List ℕ)) : Type 0 where
  pub some : (words ≡ [] → ⊥) → words ≡ spelled

no_first : {X : Type 0} (kind : Kind X) (count : ℕ) (items : List X) (rest : List (List ℕ)) → length items ≡ suc count → flat_map kind.words items ++ rest ≡ [] → ⊥
no_first kind count [] rest long is = absurd (omega (arith, long))
no_first kind count (item ∷ items) rest long is = kind.some item (flat_map kind.words items ++ rest) (sym (append_assoc (kind.words item) (flat_map kind.words items) rest) ∙ is)

pub items_spelled : {X : Type 0} (kind : Kind X) (count : ℕ) (words spelled rest : List (List ℕ)) → LeftWords words spelled → SomeBegin kind count words (read_items kind count words) rest →
    CanReadItems kind count spelled × (read_items kind count spelled ≡ read_items kind count words)
items_spelled kind zero words spelled rest left begins = (none_begin kind spelled, refl)
items_spelled kind (suc count) words spelled rest left begins =
    let none : words ≡ [] → ⊥ = λ is. no_first kind count (read_items kind (suc count) words) rest begins.counted (sym begins.spelled ∙ is) in
    let same : words ≡ spelled = left.some none in
    (subst (CanReadItems kind (suc count)) same (can_read kind (suc count) words (read_items kind (suc count) words) rest begins), sym (ap (read_items kind (suc count)) same))

pub left_words : (tokens : List TokenOf) (spelled : List (List ℕ)) → ((tokens ≡ [] → ⊥) → words_of tokens ≡ spelled) → LeftWords (words_of tokens) spelled
left_words tokens spelled is = record { some = λ some. is (λ none. some (ap words_of none)) }

-- ---- a number, how many items follow, and the items

-- the words begin with those of a number and of so many items
pub record HeadBegins {X : Type 0} (kind : Kind X) (words : List (List ℕ)) (number : ℕ) (items : List X) (rest : List (List ℕ)) : Type 0 where
  pub spelled : words ≡ decimal number ∷ decimal (length items) ∷ (flat_map kind.words items ++ rest)
  pub short : AreShort (number ∷ length items ∷ flat_map kind.numbers items)

-- what is read where words begin so, and the words after it
abbrev pub head_number : List (List ℕ) → ℕ
head_number [] = 0
head_number (number ∷ words) = digits_value 10 number

abbrev pub head_items : {X : Type 0} → Kind X → List (List ℕ) → List X
head_items kind [] = []
head_items kind (number ∷ []) = []
head_items kind (number ∷ count ∷ words) = read_items kind (digits_value 10 count) words

abbrev pub after_head : {X : Type 0} → Kind X → List (List ℕ) → List (List ℕ)
after_head kind [] = []
after_head kind (number ∷ []) = []
after_head kind (number ∷ count ∷ words) = after_read kind (digits_value 10 count) words

-- they are what is read there
pub record HeadReads {X : Type 0} (kind : Kind X) (number : ℕ) (items : List X) (rest : List (List ℕ)) : Type 0 where
  pub number_is : number ≡ digits_value 10 (decimal number)
  pub items_are : items ≡ read_items kind (digits_value 10 (decimal (length items))) (flat_map kind.words items ++ rest)
  pub after_is : rest ≡ after_read kind (digits_value 10 (decimal (length items))) (flat_map kind.words items ++ rest)

pub head_reads : {X : Type 0} (kind : Kind X) (number : ℕ) (items : List X) (rest : List (List ℕ)) → AreShort (number ∷ length items ∷ flat_map kind.numbers items) → HeadReads kind number items rest
head_reads kind number items rest short =
    let count : digits_value 10 (decimal (length items)) ≡ length items = decimal-value (length items) short.1.0 in
    let reads = read_front kind items rest short.1.1 in
    let front = flat_map kind.words items ++ rest in
    record {
      number_is = sym (decimal-value number short.0);
      items_are = reads.items_are ∙ ap (λ (n : ℕ). read_items kind n front) (sym count);
      after_is = reads.after_is ∙ ap (λ (n : ℕ). after_read kind n front) (sym count);
    }

pub head_begins : {X : Type 0} (kind : Kind X) (words first second rest : List (List ℕ)) (l m : List ℕ) (number count : ℕ) (items : List X) → IsNumberText l number → words ≡ l ∷ first → IsNumberText m count → first ≡ m ∷ second →
    SomeBegin kind count second items rest → HeadBegins kind words number items rest
head_begins kind words first second rest l m number count items is_number front is_count middle begins = record {
  spelled = front ∙ ap₂ (λ (w : List ℕ) (ws : List (List ℕ)). w ∷ ws) is_number.spelled
      (middle ∙ ap₂ (λ (w : List ℕ) (ws : List (List ℕ)). w ∷ ws) (is_count.spelled ∙ ap decimal (sym begins.counted)) begins.spelled);
  short = (is_number.size, (subst (λ (n : ℕ). n < number_bound) (sym begins.counted) is_count.size, begins.short));
}

-- the number that a word writes is the only one
pub one_number : (text : List ℕ) (a b : ℕ) → IsNumberText text a → IsNumberText text b → a ≡ b
one_number text a b is also = decimal-apart a b is.size also.size (sym is.spelled ∙ also.spelled)

-- the first two of more words
record SameWords (a b c d : List ℕ) (x y : List (List ℕ)) : Type 0 where
  first : a ≡ c
  second : b ≡ d
  rest : x ≡ y

two_words : (a b c d : List ℕ) (x y : List (List ℕ)) → a ∷ b ∷ x ≡ c ∷ d ∷ y → SameWords a b c d x y
two_words a b c d x y same = record { first = cc; second = cc; rest = cc }

-- where the items aren't there, nothing of the kind is
pub no_head : {X : Type 0} (kind : Kind X) (words first second : List (List ℕ)) (l m : List ℕ) (number count : ℕ) → IsNumberText l number → words ≡ l ∷ first → IsNumberText m count → first ≡ m ∷ second →
    ((items : List X) (rest : List (List ℕ)) → SomeBegin kind count second items rest → ⊥) → (other : ℕ) (items : List X) (rest : List (List ℕ)) → HeadBegins kind words other items rest → ⊥
no_head kind words first second l m number count is_number front is_count middle missing other items rest begins =
    let both = two_words l m (decimal other) (decimal (length items)) second (flat_map kind.words items ++ rest) (sym (front ∙ ap (λ (ws : List (List ℕ)). l ∷ ws) middle) ∙ begins.spelled) in
    let same : length items ≡ count = one_number m (length items) count (record { spelled = both.second; size = begins.short.1.0 }) is_count in
    missing items rest (record { counted = same; spelled = both.rest; short = begins.short.1.1 })

-- ---- bytes

-- what holds of each digit holds of each byte of a number
pub number_bytes : (P : ℕ → Type 0) → ((c : ℕ) → IsInRange 48 57 c → P c) → (n : ℕ) → n < number_bound → All P (decimal n)
number_bytes P digit n small = All-weaker (IsInRange 48 57) P digit (decimal n) (decimal-bytes n small)

-- where it holds of each byte of an item, it does of items, and of a number, how many items follow, and the items
items_bytes : {X : Type 0} (kind : Kind X) (P : ℕ → Type 0) → ((item : X) → AreShort (kind.numbers item) → All (All P) (kind.words item)) →
    (items : List X) → AreShort (flat_map kind.numbers items) → All (All P) (flat_map kind.words items)
items_bytes kind P one [] short = All-nil (All P)
items_bytes kind P one (item ∷ items) short =
    All-append (All P) (kind.words item) (flat_map kind.words items)
    (one item (short_first (kind.numbers item) (flat_map kind.numbers items) short))
    (items_bytes kind P one items (short_rest (kind.numbers item) (flat_map kind.numbers items) short))

pub head_bytes : {X : Type 0} (kind : Kind X) (P : ℕ → Type 0) → ((c : ℕ) → IsInRange 48 57 c → P c) → ((item : X) → AreShort (kind.numbers item) → All (All P) (kind.words item)) →
    (number : ℕ) (items : List X) → AreShort (number ∷ length items ∷ flat_map kind.numbers items) → All (All P) (decimal number ∷ decimal (length items) ∷ flat_map kind.words items)
head_bytes kind P digit one number items short =
    All-cons (All P) (decimal number) (decimal (length items) ∷ flat_map kind.words items) (number_bytes P digit number short.0)
    (All-cons (All P) (decimal (length items)) (flat_map kind.words items) (number_bytes P digit (length items) short.1.0) (items_bytes kind P one items short.1.1))
