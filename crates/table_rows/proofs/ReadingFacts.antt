-- What one read of a record takes off the records that a reader has left.
use Rattle.std.proofs.Common.{◌≡◌, ◌<◌, ◌≤◌, ◌+◌, ◌-◌, ◌∙◌, ℕ, zero, suc, Bool, true, false, List, [], ◌∷◌, ◌++◌, Option, Some, None, length, refl, ap, arith, add-one, subst, map}
use Rattle.std.proofs.lemmas.Bool.{false≢true}
use Rattle.std.specs.Prelude.{◌==◌, ◌&&◌, if◌then◌else◌, Result, Ok, Err, IsErrAnd, MatchResult}
use Rattle.csv.specs.Machine.{Read, ends_at_end, ends_with, field_after, fields_after, in_field, is_end, next_record, start_field, start_record, step}
use Rattle.csv.specs.Reading.{ReadRecord, ReadsOn, Reached, default_config, records_from, records_next, source_of, strip_bom}
use Rattle.csv.specs.declared.parser.Action.{Action}
use Rattle.csv.specs.declared.parser.State.{State}
use Rattle.csv.specs.declared.parser.State.TheVariants as st
use Rattle.csv.specs.declared.parser.Terminator.TheVariants as term
use Rattle.csv.specs.declared.reader.Reader.{Reader}
use Rattle.csv.proofs.ReadFacts.{rows-end, rows-more}
use Rattle.table_rows.specs.Reading.{StandsBetween, texts_from, texts_left}
use Rattle.table_rows.specs.Rows.{table_rows, texts_of, without_blanks}

-- where a step ends a record, the state after it stands between two records
abbrev Ends : State × Action → Type 0
Ends p = is_end p.1 ≡ true → ends_at_end p.0 ≡ false

choice : (b : Bool) (x y : State × Action) → Ends x → Ends y → Ends (if b then x else y)
choice true x y f g = f
choice false x y f g = g

after-end : (b : Bool) → ends_at_end (if b then st.AfterCr else st.StartRecord) ≡ false
after-end true = refl
after-end false = refl

in_field-ends : (c : ℕ) → Ends (in_field default_config c)
in_field-ends c = choice (c == 44) _ _ (λ e. absurd (false≢true e)) (choice (ends_with term.CRLF c) _ _ (λ e. after-end (c == 13)) (λ e. absurd (false≢true e)))

start_field-ends : (c : ℕ) → Ends (start_field default_config c)
start_field-ends c = choice (true && (c == 34)) _ _ (λ e. absurd (false≢true e)) (in_field-ends c)

start_record-ends : (c : ℕ) → Ends (start_record default_config c)
start_record-ends c = choice (ends_with term.CRLF c) _ _ (λ e. absurd (false≢true e)) (start_field-ends c)

step-ends : (s : State) (c : ℕ) → Ends (step default_config s c)
step-ends st.StartRecord c = start_record-ends c
step-ends st.StartField c = start_field-ends c
step-ends st.InField c = in_field-ends c
step-ends st.InQuoted c = choice (true && (c == 34)) _ _ (λ e. absurd (false≢true e)) (λ e. absurd (false≢true e))
step-ends st.InEscape c = λ e. absurd (false≢true e)
step-ends st.AfterQuote c = choice (true && true && (c == 34)) _ _ (λ e. absurd (false≢true e)) (in_field-ends c)
step-ends st.InComment c = choice (c == 10) _ _ (λ e. absurd (false≢true e)) (λ e. absurd (false≢true e))
step-ends st.AfterCr c = choice (c == 10) _ _ (λ e. absurd (false≢true e)) (start_record-ends c)

-- what a record that was read leaves: a state between two records, and fewer bytes
abbrev Leaves : ℕ → Read → Type 0
Leaves size p = (ends_at_end p.1 ≡ false) × (length p.2 ≤ size - 1)

leaves-next : (s : State) (fields : List (List ℕ)) (field xs : List ℕ) (p : Read) → next_record default_config s fields field xs ≡ Some p → Leaves (length xs) p
unfolding next_record
leaves-next s fields field [] p e = last (ends_at_end s) e
  where
    last : (b : Bool) → (if b then Some (fields ++ field ∷ [], st.StartRecord, []) else None) ≡ Some p → Leaves 0 p
    last true e =
        let same : (fields ++ field ∷ [], st.StartRecord, []) ≡ p = cc e in
        subst (Leaves 0) same (refl, omega arith)
    last false e = cc e
leaves-next s fields field (c ∷ rest) p e = by (is_end (step default_config s c).1) refl (leaves-next (step default_config s c).0 _ _ rest p) e
  where
    next : Option Read
    next = next_record default_config (step default_config s c).0 (fields_after (step default_config s c).1 fields field) (field_after (step default_config s c).1 c field) rest

    by : (b : Bool) → is_end (step default_config s c).1 ≡ b → (next ≡ Some p → Leaves (length rest) p)
        → (if b then Some (fields_after (step default_config s c).1 fields field, (step default_config s c).0, rest) else next) ≡ Some p
        → Leaves (length (c ∷ rest)) p
    by true i more e =
        let same : (fields_after (step default_config s c).1 fields field, (step default_config s c).0, rest) ≡ p = cc e in
        subst (Leaves (length (c ∷ rest))) same (step-ends s c i, omega arith)
    by false i more e =
        let (between, fewer) = more e in
        (between, omega arith)

-- between two records a record takes a byte at least
next-between : (s : State) (xs : List ℕ) (p : Read) → ends_at_end s ≡ false → next_record default_config s [] [] xs ≡ Some p
    → (ends_at_end p.1 ≡ false) × (length p.2 < length xs)
unfolding next_record
next-between s [] p b e = cc (rw b at e)
next-between s (c ∷ rest) p b e =
    let (between, fewer) = leaves-next s [] [] (c ∷ rest) p e in
    (between, omega arith)

-- more turns than bytes give the same records
records-turns : (n m : ℕ) (s : State) (xs : List ℕ) → ends_at_end s ≡ false → length xs < n → length xs < m
    → records_from default_config n s xs ≡ records_from default_config m s xs
unfolding records_from
records-turns zero m s xs b f g = absurd (omega arith)
records-turns (suc n) zero s xs b f g = absurd (omega arith)
records-turns (suc n) (suc m) s xs b f g = by (next_record default_config s [] [] xs) (λ p. next-between s xs p b) (records-turns n m)
  where
    by : (o : Option Read) → ((p : Read) → o ≡ Some p → (ends_at_end p.1 ≡ false) × (length p.2 < length xs))
        → ((st : State) (ys : List ℕ) → ends_at_end st ≡ false → length ys < n → length ys < m → records_from default_config n st ys ≡ records_from default_config m st ys)
        → records_next (records_from default_config n) o ≡ records_next (records_from default_config m) o
    by None left more = refl
    by (Some p) left more =
        let (between, fewer) = left p refl in
        ap (λ (rows : List (List (List ℕ))). p.0 ∷ rows) (more p.1 p.2 between (omega arith) (omega arith))

-- a record that comes next is the first of those that are left
texts-next : (s : State) (xs : List ℕ) (p : Read) → ends_at_end s ≡ false → next_record default_config s [] [] xs ≡ Some p
    → texts_from s (Some xs) ≡ texts_of p.0 ∷ texts_from p.1 (Some p.2)
unfolding texts_from records_from
texts-next s xs p b e =
    let (between, fewer) = next-between s xs p b e in
    rw (add-one (length xs), e) (ap (λ (rows : List (List (List ℕ))). texts_of p.0 ∷ map texts_of rows) (records-turns (length xs) (length p.2 + 1) p.1 p.2 between fewer (omega arith)))

texts-none : (s : State) (xs : List ℕ) → next_record default_config s [] [] xs ≡ None → texts_from s (Some xs) ≡ []
unfolding texts_from records_from
texts-none s xs e = rw (add-one (length xs), e) refl

-- the same, of the bytes before and after a read
texts-step : (s s2 : State) (before after : Option (List ℕ)) (xs z : List ℕ) (fields : List (List ℕ)) (p : Read)
    → ends_at_end s ≡ false → before ≡ Some xs → after ≡ Some z → next_record default_config s [] [] xs ≡ Some p → fields ≡ p.0 → p.1 ≡ s2 → p.2 ≡ z
    → texts_from s before ≡ texts_of fields ∷ texts_from s2 after
texts-step s s2 before after xs z fields p b was is e f state rest = rw (was, is, f, ← state, ← rest) (texts-next s xs p b e)

-- a read that found a record
pub read-found : {R : Type 0} (remaining : R → Option (List ℕ)) (old new : Reader R) (fields : List (List ℕ))
    → StandsBetween remaining old → ReadRecord remaining old new true fields → ReadsOn old new
    → StandsBetween remaining new × (texts_left remaining old ≡ texts_of fields ∷ texts_left remaining new)
unfolding Reached
read-found remaining old new fields stands read on =
    let (z, at_z, reached) = rows-more remaining old new fields default_config old.state stands.bytes stands.bytes [] stands.config stands.known (refl, refl) read in
    let (p, next, same, left) = reached in
    let (between, fewer) = next-between old.state stands.bytes p stands.between next in (
      record {
        config = read.2 ∙ stands.config;
        as_it_stands = read.3 ∙ stands.as_it_stands;
        ready = (on.4 stands.ready).0;
        lengths_differ = on.2 ∙ stands.lengths_differ;
        between = subst (λ s. ends_at_end s ≡ false) left.0 between;
        bytes = z;
        known = at_z;
      },
      texts-step old.state new.state (source_of remaining old) (source_of remaining new) stands.bytes z fields p stands.between stands.known at_z next same left.0 left.1,
    )

-- a read that found none
pub read-ended : {R : Type 0} (remaining : R → Option (List ℕ)) (old new : Reader R) (fields : List (List ℕ))
    → StandsBetween remaining old → ReadRecord remaining old new false fields → texts_left remaining old ≡ []
read-ended remaining old new fields stands read =
    rw stands.known (texts-none old.state stands.bytes (rows-end remaining old new fields default_config stands.bytes stands.config stands.known read))

-- what a call that only turns an error into another one answered before
pub was-ok : {E F : Type 0} (P : E → F → Type 0) (before : Result Bool E) (after : Result Bool F) (found : Bool)
    → MatchResult before (λ x. after ≡ Ok x) (λ e. IsErrAnd after (P e)) → after ≡ Ok found → before ≡ Ok found
was-ok P (Ok x) after found h e =
    let same : x ≡ found = cc in
    ap Ok same
was-ok P (Err x) after found h e = absurd (rw e at h)

-- the records that are left at the start of a table are its records
pub rows-start : (s : State) (known : Option (List ℕ)) (bytes : List ℕ) → s ≡ st.StartRecord → known ≡ Some (strip_bom bytes)
    → without_blanks (texts_from s known) ≡ table_rows bytes
unfolding texts_from table_rows
rows-start s known bytes e f = rw (e, f) refl
