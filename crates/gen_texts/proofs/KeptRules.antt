-- A table of names whose records break no rule has no fault.
use Rattle.std.proofs.Common.{◌≡◌, ◌∙◌, ◌<◌, ◌≤◌, ◌+◌, ℕ, Bool, true, false, List, [], ◌∷◌, ◌++◌, ◌==◌, Some, None, length, map, refl, sym, ap, arith, length-append, subst}
use Rattle.std.specs.Prelude.{if◌then◌else◌, nat_lt, nat_le, ◌&&◌}
use Rattle.std.specs.List.{AllByRecursion, list_all}
use Rattle.std.proofs.lemmas.Bool.{and_parts, ne_eqb}
use Rattle.std.proofs.lemmas.List.{map-append}
use Rattle.std.proofs.lemmas.Bool.Decides.{nat_tests}
use Rattle.table_rows.specs.Faults.{first_broken, first_fault}
use Rattle.table_rows.specs.Header.{rows_under}
use Rattle.table_rows.proofs.FaultFacts.{CleanSoFar, clean-next, clean-start, first_fault-none}
use Rattle.table_columns.specs.Columns.{NamedRules, name_at, name_rules, named_rules, named_table, record_rules}
use Rattle.table_columns.specs.Names.{is_among, is_name, is_name_byte}
use Rattle.table_columns.proofs.NameFacts.{is_name-within}
use Rattle.table_columns.proofs.RecordFacts.{past}
use Rattle.gen_texts.proofs.PlainTexts.{IsPlain, IsPlainByte, is_plain_byte, plain-tested, plain-utf8, texts-utf8}

-- ---- names

name-byte : (b : ℕ) → IsPlainByte b → is_name_byte b ≡ true
name-byte b is =
    let low : nat_le 0x20 b ≡ true = grind (arith, nat_tests) in
    let delete : (b == 0x7F) ≡ false = ne_eqb b 0x7F (λ e. absurd (omega (arith, e))) in
    let comma : (b == 0x2C) ≡ false = ne_eqb b 0x2C (λ e. absurd (omega (arith, e))) in
    let quote : (b == 0x22) ≡ false = ne_eqb b 0x22 (λ e. absurd (omega (arith, e))) in
    rw (low, delete, comma, quote) refl

name-bytes : (text : List ℕ) → IsPlain text → list_all is_name_byte text ≡ true
name-bytes [] all = refl
name-bytes (b ∷ text) (here, all) = rw (name-byte b here) (name-bytes text all)

-- a plain text of 1 to 32 bytes is a name
pub plain-name : (text : List ℕ) → IsPlain text → 0 < length text → length text ≤ 32 → is_name text ≡ true
plain-name text all some few = is_name-within text some few (name-bytes text all) ∙ plain-utf8 text all

-- ---- a record

-- a record of plain texts with a new name, whose columns break no rule
pub named-kept : {K : Type 0} (asks : NamedRules K) (number : ℕ) (row : List (List ℕ)) (names : List (List ℕ)) → nat_lt asks.shape.most number ≡ false
    → (length row == asks.shape.fields) ≡ true → AllByRecursion IsPlain row → is_name (name_at row) ≡ true → is_among (name_at row) names ≡ false
    → first_broken (asks.columns row) ≡ None → first_broken (named_rules asks number row names) ≡ None
unfolding named_rules record_rules name_rules first_broken
named-kept asks number row names few right plain is new kept =
    past (record_rules asks.shape number row) (name_rules asks.name (name_at row) names ++ asks.columns row) None (rw (few, right, texts-utf8 row plain) refl)
    (past (name_rules asks.name (name_at row) names) (asks.columns row) None (rw (is, new) refl) kept)

-- ---- a table

-- the records from this number on break no rule, after records of these names
pub KeptFrom : {K : Type 0} → NamedRules K → ℕ → List (List ℕ) → List (List (List ℕ)) → Type 0
KeptFrom asks number names [] = Unit {0}
KeptFrom asks number names (row ∷ rows) = (first_broken (named_rules asks number row names) ≡ None) × KeptFrom asks (number + 1) (names ++ name_at row ∷ []) rows

kept-none : {K : Type 0} (asks : NamedRules K) (bytes : List ℕ) (rows seen left : List (List (List ℕ))) (number : ℕ) (names : List (List ℕ))
    → rows_under asks.header bytes ≡ Some rows → CleanSoFar (named_table asks) rows seen left → number ≡ length seen + 2 → names ≡ map name_at seen
    → KeptFrom asks number names left → first_fault (named_table asks) bytes ≡ None
unfolding KeptFrom
kept-none asks bytes rows seen [] number names under so_far n e kept = (first_fault-none (named_table asks) bytes rows seen [] under so_far refl).0
kept-none asks bytes rows seen (row ∷ left) number names under so_far n e (here, kept) =
    let this : first_broken (named_rules asks number row (map name_at seen)) ≡ None = subst (λ (before : List (List ℕ)). first_broken (named_rules asks number row before) ≡ None) e here in
    let next : number + 1 ≡ length (seen ++ row ∷ []) + 2 = omega (arith, length-append seen (row ∷ []), n) in
    let more : names ++ name_at row ∷ [] ≡ map name_at (seen ++ row ∷ []) = ap (λ (before : List (List ℕ)). before ++ name_at row ∷ []) e ∙ sym (map-append name_at seen (row ∷ [])) in
    kept-none asks bytes rows (seen ++ row ∷ []) left (number + 1) (names ++ name_at row ∷ []) under
    (clean-next (named_table asks) rows seen (row ∷ left) left row number so_far refl n this) next more kept

pub table-kept : {K : Type 0} (asks : NamedRules K) (bytes : List ℕ) (rows : List (List (List ℕ))) → rows_under asks.header bytes ≡ Some rows → KeptFrom asks 2 [] rows
    → first_fault (named_table asks) bytes ≡ None
table-kept asks bytes rows under kept = kept-none asks bytes rows [] rows 2 [] under (clean-start (named_table asks) rows rows refl) refl refl kept

-- ---- names one after the other, by tests

-- whether a text is plain and of 1 to 32 bytes
abbrev pub is_plain_name : List ℕ → Bool
is_plain_name text = list_all is_plain_byte text && (nat_le 1 (length text) && nat_le (length text) 32)

plain-name-tested : (text : List ℕ) → is_plain_name text ≡ true → is_name text ≡ true
plain-name-tested text e =
    let (plain, sizes) = and_parts (list_all is_plain_byte text) (nat_le 1 (length text) && nat_le (length text) 32) e in
    let (some, few) = and_parts (nat_le 1 (length text)) (nat_le (length text) 32) sizes in
    plain-name text (plain-tested text plain) (least (length text) some) (most (length text) few)
  where
    least : (n : ℕ) → nat_le 1 n ≡ true → 0 < n
    least n e = grind (arith, nat_tests)

    most : (n : ℕ) → nat_le n 32 ≡ true → n ≤ 32
    most n e = grind (arith, nat_tests)

-- whether the records from this number on are not too many, with names that are plain and new
abbrev pub are_fresh : ℕ → ℕ → List (List ℕ) → List (List (List ℕ)) → Bool
are_fresh most number names [] = true
are_fresh most number names (row ∷ rows) =
    if nat_lt most number then false
    else (if is_plain_name (name_at row) then (if is_among (name_at row) names then false else are_fresh most (number + 1) (names ++ name_at row ∷ []) rows) else false)

-- a record of plain texts whose columns break no rule
pub record IsKeptRow {K : Type 0} (asks : NamedRules K) (row : List (List ℕ)) : Type 0 where
  pub right : (length row == asks.shape.fields) ≡ true
  pub plain : AllByRecursion IsPlain row
  pub columns : first_broken (asks.columns row) ≡ None

pub fresh-kept : {K : Type 0} (asks : NamedRules K) (number : ℕ) (names : List (List ℕ)) (rows : List (List (List ℕ))) → are_fresh asks.shape.most number names rows ≡ true
    → AllByRecursion (IsKeptRow asks) rows → KeptFrom asks number names rows
unfolding KeptFrom
fresh-kept asks number names [] fresh all = tt
fresh-kept {K} asks number names (row ∷ rows) fresh (here, all) =
    by (nat_lt asks.shape.most number) refl (is_plain_name (name_at row)) refl (is_among (name_at row) names) refl fresh
    (λ rest. fresh-kept asks (number + 1) (names ++ name_at row ∷ []) rows rest all)
  where
    by : (s : Bool) → nat_lt asks.shape.most number ≡ s → (t : Bool) → is_plain_name (name_at row) ≡ t → (u : Bool) → is_among (name_at row) names ≡ u
        → (if s then false else (if t then (if u then false else are_fresh asks.shape.most (number + 1) (names ++ name_at row ∷ []) rows) else false)) ≡ true
        → (are_fresh asks.shape.most (number + 1) (names ++ name_at row ∷ []) rows ≡ true → KeptFrom asks (number + 1) (names ++ name_at row ∷ []) rows)
        → (first_broken (named_rules asks number row names) ≡ None) × KeptFrom asks (number + 1) (names ++ name_at row ∷ []) rows
    by true e t f u g rest more = cc rest
    by false e false f u g rest more = cc rest
    by false e true f true g rest more = cc rest
    by false e true f false g rest more = (named-kept asks number row names e here.right here.plain (plain-name-tested (name_at row) f) g here.columns, more rest)
