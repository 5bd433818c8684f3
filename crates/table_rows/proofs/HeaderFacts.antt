-- Texts compared one by one, byte order marks, and the header row.
use Rattle.std.proofs.Common.{◌≡◌, ◌<◌, ◌+◌, ◌∙◌, ℕ, zero, suc, Bool, true, false, List, [], ◌∷◌, Some, None, length, refl, sym, ap, drop, map, get_or, add-one}
use Rattle.std.specs.Prelude.{if◌then◌else◌, IsUtf8, MatchResult, Result, Ok, Err, is_err, option_map, slice_get}
use Rattle.std.specs.List.{list_all}
use Rattle.std.specs.Str.{bytes_eq, is_utf8}
use Rattle.std.proofs.lemmas.Bool.{and_parts, eqb-true, false_from_ne_true}
use Rattle.std.proofs.lemmas.Option.{slice_get-get_or, slice_get-map}
use Rattle.std.proofs.lemmas.Str.{IsUtf8-from_is_utf8, is_utf8-from_IsUtf8}
use Rattle.csv.specs.Reading.{is_bom, strip_bom}
use Rattle.table_rows.specs.Header.{rows_below, rows_under, same_texts}
use Rattle.table_rows.specs.Mark.{HasSecondMark, has_second_mark, starts_with_mark}
use Rattle.table_rows.specs.Rows.{table_rows}

-- the item at a place, and those after it
drop-at : {A : Type 0} (xs : List A) (k : ℕ) (x : A) → slice_get xs k ≡ Some x → drop k xs ≡ x ∷ drop (k + 1) xs
drop-at xs k x e = rw (add-one k) (by xs k e)
  where
    by : (ys : List _) (j : ℕ) → slice_get ys j ≡ Some x → drop j ys ≡ x ∷ drop (suc j) ys
    by [] j e = cc e
    by (y ∷ ys) zero e =
        let same : y ≡ x = cc e in
        ap (λ (z : _). z ∷ ys) same
    by (y ∷ ys) (suc j) e = by ys j e

-- what stands at a place of a mapped list
pub at-map : {A B : Type 0} (f : A → B) (xs : List A) (k : ℕ) (d : A) (t : B) → k < length xs → t ≡ f (get_or xs k d) → slice_get (map f xs) k ≡ Some t
at-map f xs k d t h e = slice_get-map f xs k ∙ ap (option_map f) (slice_get-get_or xs k d h) ∙ ap Some (sym e)

-- two texts that differ, or are the same, at a place up to which all are the same
pub texts-differ : (row texts : List (List ℕ)) (k : ℕ) (x y : List ℕ) (same : Bool) → slice_get row k ≡ Some x → slice_get texts k ≡ Some y
    → same_texts (drop k row) (drop k texts) ≡ same → bytes_eq x y ≡ false → false ≡ same
texts-differ row texts k x y same a b e n = sym (rw (drop-at row k x a, drop-at texts k y b, n) refl) ∙ e

pub texts-agree : (row texts : List (List ℕ)) (k : ℕ) (x y : List ℕ) (same : Bool) → slice_get row k ≡ Some x → slice_get texts k ≡ Some y
    → same_texts (drop k row) (drop k texts) ≡ same → bytes_eq x y ≡ true → same_texts (drop (k + 1) row) (drop (k + 1) texts) ≡ same
texts-agree row texts k x y same a b e n = sym (rw (drop-at row k x a, drop-at texts k y b, n) refl) ∙ e

-- the same of a test of each text
pub all-differ : (test : List ℕ → Bool) (row : List (List ℕ)) (k : ℕ) (x : List ℕ) (all : Bool) → slice_get row k ≡ Some x
    → list_all test (drop k row) ≡ all → test x ≡ false → false ≡ all
all-differ test row k x all a e n = sym (rw (drop-at row k x a, n) refl) ∙ e

pub all-agree : (test : List ℕ → Bool) (row : List (List ℕ)) (k : ℕ) (x : List ℕ) (all : Bool) → slice_get row k ≡ Some x
    → list_all test (drop k row) ≡ all → test x ≡ true → list_all test (drop (k + 1) row) ≡ all
all-agree test row k x all a e n = sym (rw (drop-at row k x a, n) refl) ∙ e

-- what a reading of bytes as text says of them
pub no-text : {T E : Type 0} (P : T → Type 0) (Q : E → Type 0) (bytes : List ℕ) (r : Result T E)
    → MatchResult r (λ s. P s × IsUtf8 bytes) (λ e. ¬ (IsUtf8 bytes) × Q e) → is_err r ≡ true → is_utf8 bytes ≡ false
no-text P Q bytes (Ok s) h e = cc e
no-text P Q bytes (Err s) h e = false_from_ne_true (is_utf8 bytes) (λ t. h.0 (IsUtf8-from_is_utf8 bytes t))

pub some-text : {T E : Type 0} (P : T → Type 0) (Q : E → Type 0) (bytes : List ℕ) (r : Result T E)
    → MatchResult r (λ s. P s × IsUtf8 bytes) (λ e. ¬ (IsUtf8 bytes) × Q e) → is_err r ≡ false → is_utf8 bytes ≡ true
some-text P Q bytes (Ok s) h e = is_utf8-from_IsUtf8 bytes h.1
some-text P Q bytes (Err s) h e = cc e

-- the bytes of a mark
starts-parts : (xs : List ℕ) → starts_with_mark xs ≡ true → (rest : List ℕ) × (xs ≡ 0xEF ∷ 0xBB ∷ 0xBF ∷ rest)
starts-parts [] e = cc e
starts-parts (a ∷ []) e = cc e
starts-parts (a ∷ b ∷ []) e = cc e
starts-parts (a ∷ b ∷ c ∷ rest) e =
    let (front, third) = and_parts _ _ e in
    let (first, second) = and_parts _ _ front in
    let x : a ≡ 0xEF = eqb-true a 0xEF first in
    let y : b ≡ 0xBB = eqb-true b 0xBB second in
    let z : c ≡ 0xBF = eqb-true c 0xBF third in
    (rest, cc)

second-parts : (xs : List ℕ) → has_second_mark xs ≡ true → HasSecondMark xs
unfolding has_second_mark strip_bom
second-parts [] e = cc e
second-parts (a ∷ []) e = cc e
second-parts (a ∷ b ∷ []) e = cc e
second-parts (a ∷ b ∷ c ∷ rest) e = by (is_bom a b c) refl
  where
    by : (t : Bool) → is_bom a b c ≡ t → HasSecondMark (a ∷ b ∷ c ∷ rest)
    by true t =
        let (first, one) = starts-parts (a ∷ b ∷ c ∷ rest) t in
        let (second, two) = starts-parts rest (rw t at e) in
        (second, one ∙ ap (λ (tail : List ℕ). 0xEF ∷ 0xBB ∷ 0xBF ∷ tail) (cc (one, two)))
    by false t =
        let none : is_bom a b c ≡ true = rw t at e in
        cc (t, none)

second-mark : (xs : List ℕ) → HasSecondMark xs → has_second_mark xs ≡ true
unfolding has_second_mark strip_bom
second-mark xs (rest, e) = rw e refl

-- a table with two marks has nothing under its header row
pub under-marks : (header : List (List ℕ)) (bytes : List ℕ) → HasSecondMark bytes → None ≡ rows_under header bytes
unfolding rows_under
under-marks header bytes two = rw (second-mark bytes two) refl

no-marks : (bytes : List ℕ) → (HasSecondMark bytes → ⊥) → has_second_mark bytes ≡ false
no-marks bytes one = false_from_ne_true (has_second_mark bytes) (λ t. one (second-parts bytes t))

-- the records under a first record that is the header, or another, or that isn't there
pub under-header : (header : List (List ℕ)) (bytes : List ℕ) (first : List (List ℕ)) (rest : List (List (List ℕ))) → (HasSecondMark bytes → ⊥)
    → table_rows bytes ≡ first ∷ rest → same_texts first header ≡ true → Some rest ≡ rows_under header bytes
unfolding rows_under rows_below
under-header header bytes first rest one e same = rw (no-marks bytes one, e, same) refl

pub under-other : (header : List (List ℕ)) (bytes : List ℕ) (first : List (List ℕ)) (rest : List (List (List ℕ))) → (HasSecondMark bytes → ⊥)
    → table_rows bytes ≡ first ∷ rest → same_texts first header ≡ false → None ≡ rows_under header bytes
unfolding rows_under rows_below
under-other header bytes first rest one e same = rw (no-marks bytes one, e, same) refl

pub under-none : (header : List (List ℕ)) (bytes : List ℕ) → (HasSecondMark bytes → ⊥) → table_rows bytes ≡ [] → None ≡ rows_under header bytes
unfolding rows_under rows_below
under-none header bytes one e = rw (no-marks bytes one, e) refl

below-rest : (header : List (List ℕ)) (all rows : List (List (List ℕ))) → rows_below header all ≡ Some rows → drop 1 all ≡ rows
unfolding rows_below
below-rest header [] rows e = cc e
below-rest header (row ∷ more) rows e = by (same_texts row header) e
  where
    by : (t : Bool) → (if t then Some more else None) ≡ Some rows → more ≡ rows
    by true f = cc f
    by false f = cc f

-- what is under a header row is every record but the first
pub under-rest : (header : List (List ℕ)) (bytes : List ℕ) (rows : List (List (List ℕ))) → rows_under header bytes ≡ Some rows → drop 1 (table_rows bytes) ≡ rows
unfolding rows_under
under-rest header bytes rows e = by (has_second_mark bytes) e
  where
    by : (t : Bool) → (if t then None else rows_below header (table_rows bytes)) ≡ Some rows → drop 1 (table_rows bytes) ≡ rows
    by true f = cc f
    by false f = below-rest header (table_rows bytes) rows f
