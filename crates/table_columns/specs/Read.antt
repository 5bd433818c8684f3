-- What a reading of a column, of a record and of a table answers, over any kind of fault. This project's own.
use Rattle.std.specs.Prelude.{ℕ, ◌≡◌, List, [], ◌∷◌, ◌++◌, true, false, Option, Some, None, Result, Ok, Err}
use Rattle.table_rows.specs.Faults.{Rule, first_broken}
use Rattle.table_columns.specs.declared.refusal.Refusal.{Refusal}
use Rattle.table_columns.specs.declared.refusal.Refusal.TheVariants as refusal
use Rattle.table_columns.specs.Names.{is_among, is_name}

-- no rule is broken and what was read is right, or the kind is that of the first broken rule
abbrev pub Reads : {K V : Type 0} → List (Rule K) → (V → Type 0) → Result V K → Type 0
Reads rules IsRight (Ok value) = (first_broken rules ≡ None) × IsRight value
Reads rules IsRight (Err broken) = first_broken rules ≡ Some broken

-- a name is this text, and it is none of these names
pub record IsNewName (text : List ℕ) (names : List (List ℕ)) (name : List ℕ) : Type 0 where
  pub same : name ≡ text
  pub is_one : is_name text ≡ true
  pub other : is_among text names ≡ false

-- the record of this number breaks none of its rules and what it stands for is added, or the answer is its number and the
-- kind of the first rule that it breaks, or memory ran out
abbrev pub Adds : {K V : Type 0} → ℕ → List (Rule K) → V → List V → List V → Result Unit (Refusal K) → Type 0
Adds number rules value before after (Ok done) = (first_broken rules ≡ None) × (after ≡ before ++ value ∷ [])
Adds number rules value before after (Err (refusal.Broken broken kind)) = (first_broken rules ≡ Some kind) × (broken ≡ number)
Adds number rules value before after (Err refusal.NoMemory) = Unit {0}

-- a table has no fault and what was read, seen as a list, is this one, or the answer is its first fault, or memory ran out
abbrev pub AnswersBy : {R K V : Type 0} → (R → List V) → Option (ℕ × K) → List V → Result R (Refusal K) → Type 0
AnswersBy seen fault values (Ok read) = (fault ≡ None) × (seen read ≡ values)
AnswersBy seen fault values (Err (refusal.Broken number kind)) = fault ≡ Some (number, kind)
AnswersBy seen fault values (Err refusal.NoMemory) = Unit {0}
