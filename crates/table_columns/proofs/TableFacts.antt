-- The records of a table that were read so far, over any kind of fault.
use Rattle.std.proofs.Common.{◌≡◌, ◌∙◌, ◌+◌, ℕ, List, [], ◌∷◌, ◌++◌, Some, None, length, map, refl, sym, ap}
use Rattle.std.specs.Prelude.{Err, drop}
use Rattle.std.proofs.lemmas.List.{map-append}
use Rattle.table_rows.specs.Faults.{TableRules, first_broken, first_fault}
use Rattle.table_rows.specs.Header.{rows_under}
use Rattle.table_rows.specs.Rows.{table_rows}
use Rattle.table_rows.proofs.FaultFacts.{CleanSoFar, clean-next, clean-start, first_fault-found, first_fault-none}
use Rattle.table_rows.proofs.HeaderFacts.{under-rest}
use Rattle.table_columns.specs.declared.refusal.Refusal.{Refusal}
use Rattle.table_columns.specs.declared.refusal.Refusal.TheVariants as refusal
use Rattle.table_columns.specs.Read.{Adds, AnswersBy}

-- the records seen so far have no fault and stand for these values, and these records are left
pub record ReadSoFar {K V : Type 0} (table : TableRules K) (value_of : List (List ℕ) → V) (rows left : List (List (List ℕ))) (values : List V) : Type 0 where
  pub before : List (List (List ℕ))
  pub clean : CleanSoFar table rows before left
  pub read : values ≡ map value_of before

pub read-start : {K V : Type 0} (table : TableRules K) (value_of : List (List ℕ) → V) (rows left : List (List (List ℕ))) (values : List V) → rows ≡ left → values ≡ []
    → ReadSoFar table value_of rows left values
read-start table value_of rows left values e none = record { before = []; clean = clean-start table rows left e; read = none }

module _ {K V : Type 0} (table : TableRules K) (value_of : List (List ℕ) → V) (rows left rest : List (List (List ℕ))) (before after : List V) (row : List (List ℕ)) where
  -- one more record that breaks no rule
  pub read-next : (so_far : ReadSoFar table value_of rows left before) → left ≡ row ∷ rest
      → first_broken (table.rules (length so_far.before + 2) row so_far.before) ≡ None → after ≡ before ++ value_of row ∷ [] → ReadSoFar table value_of rows rest after
  read-next so_far e kept more = record {
    before = so_far.before ++ row ∷ [];
    clean = clean-next table rows so_far.before left rest row (length so_far.before + 2) so_far.clean e refl kept;
    read = more ∙ ap (λ (read : List V). read ++ value_of row ∷ []) so_far.read ∙ sym (map-append value_of so_far.before (row ∷ []));
  }

  -- the answer where a record wasn't added
  pub read-broken : {R : Type 0} (seen : R → List V) (bytes : List ℕ) (values : List V) (refused : Refusal K) → rows_under table.header bytes ≡ Some rows
      → (so_far : ReadSoFar table value_of rows left before) → left ≡ row ∷ rest
      → Adds (length so_far.before + 2) (table.rules (length so_far.before + 2) row so_far.before) (value_of row) before after (Err refused)
      → AnswersBy seen (first_fault table bytes) values (Err refused)
  read-broken seen bytes values (refusal.Broken number kind) under so_far e adds =
      first_fault-found table bytes rows so_far.before left rest row number kind under so_far.clean e adds.1 (rw adds.1 adds.0)
  read-broken seen bytes values refusal.NoMemory under so_far e adds = tt

-- no record is left
pub read-all : {K V : Type 0} (table : TableRules K) (value_of : List (List ℕ) → V) (bytes : List ℕ) (rows left : List (List (List ℕ))) (values : List V)
    → rows_under table.header bytes ≡ Some rows → ReadSoFar table value_of rows left values → left ≡ []
    → (first_fault table bytes ≡ None) × (values ≡ map value_of (drop 1 (table_rows bytes)))
read-all table value_of bytes rows left values under so_far e =
    let (none, all) = first_fault-none table bytes rows so_far.before left under so_far.clean e in
    (none, so_far.read ∙ ap (map value_of) (sym (under-rest table.header bytes rows under ∙ all)))
