-- The first fault of a table: each record is asked a list of rules in their order. This project's own.
use Rattle.std.specs.Prelude.{ℕ, ◌+◌, ◌<◌, ◌≤◌, ◌≡◌, ◌⊎◌, ◌↔◌, List, [], ◌∷◌, Bool, true, if◌then◌else◌, Option, Some, None, is_none, drop, filter, map, slice_get, take}
use Rattle.std.specs.List.{enumerate_from, flat_map}
use Rattle.table_rows.specs.Header.{rows_under}
use Rattle.table_rows.specs.Rows.{table_rows}

-- a rule of a record: whether the record breaks it, and the kind of fault that this is
pub record Rule (K : Type 0) : Type 0 where
  pub broken : Bool
  pub kind : K

-- the kind of the first rule that is broken
unfoldable pub first_broken : {K : Type 0} → List (Rule K) → Option K
first_broken [] = None
first_broken (rule ∷ rules) = if rule.broken then Some rule.kind else first_broken rules

-- what a table asks of its records: the header row, the kind of fault where record 1 is another, and the rules of each
-- further record, by its number, its fields' texts and the records between the header row and it
pub record TableRules (K : Type 0) : Type 0 where
  pub header : List (List ℕ)
  pub header_kind : K
  pub rules : ℕ → List (List ℕ) → List (List (List ℕ)) → List (Rule K)

-- the rules of each of the records under a header row: the one at place k, counted from 0, is record k + 2, and the k
-- records before it are the earlier ones
unfoldable pub asked_under : {K : Type 0} → TableRules K → List (List (List ℕ)) → List (List (Rule K))
asked_under table rows = map (λ placed. table.rules (placed.0 + 2) placed.1 (take placed.0 rows)) (enumerate_from 0 rows)

-- the rules of each record of a table, from record 1 on, which is asked to be the header row
unfoldable pub asked : {K : Type 0} → TableRules K → List ℕ → List (List (Rule K))
asked table bytes =
    (record { broken = is_none (rows_under table.header bytes); kind = table.header_kind } ∷ []) ∷ asked_under table (drop 1 (table_rows bytes))

-- the broken rules of the record of this number, each a fault
abbrev pub faults_at : {K : Type 0} → ℕ → List (Rule K) → List (ℕ × K)
faults_at number rules = map (λ rule. (number, rule.kind)) (filter (λ rule. rule.broken) rules)

-- the faults record by record, where the first of the records has this number
unfoldable pub faults_from : {K : Type 0} → ℕ → List (List (Rule K)) → List (ℕ × K)
faults_from number all = flat_map (λ numbered. faults_at numbered.0 numbered.1) (enumerate_from number all)

-- the first fault of a table: the number of its record, counted from 1, and its kind
unfoldable pub first_fault : {K : Type 0} → TableRules K → List ℕ → Option (ℕ × K)
first_fault table bytes = slice_get (faults_from 1 (asked table bytes)) 0

-- the rule at this place, counted from 0, of the record of this number is broken, and has this kind
pub record BrokenAt {K : Type 0} (all : List (List (Rule K))) (number place : ℕ) (kind : K) : Type 0 where
  pub index : ℕ
  pub numbered : number ≡ index + 1
  pub rules : List (Rule K)
  pub of_record : slice_get all index ≡ Some rules
  pub rule : Rule K
  pub of_place : slice_get rules place ≡ Some rule
  pub is_broken : rule.broken ≡ true
  pub is_kind : rule.kind ≡ kind

-- the pair (record, place) comes no later than the other, by record and in a record by place
abbrev pub IsUpTo : ℕ → ℕ → ℕ → ℕ → Type 0
IsUpTo number place other_number other_place = (number < other_number) ⊎ ((number ≡ other_number) × (place ≤ other_place))

-- a fault is the least pair (record, place) of all the broken rules
pub record IsLeastFault {K : Type 0} (all : List (List (Rule K))) (fault : ℕ × K) : Type 0 where
  pub place : ℕ
  pub is_fault : BrokenAt all fault.0 place fault.1
  pub least : (number other : ℕ) (kind : K) → BrokenAt all number other kind → IsUpTo fault.0 place number other

-- what was found is the least fault, and nothing only where no rule is broken
pub record FindsLeast {K : Type 0} (all : List (List (Rule K))) (found : Option (ℕ × K)) : Type 0 where
  pub some : (fault : ℕ × K) → (found ≡ Some fault) ↔ IsLeastFault all fault
  pub none : (found ≡ None) ↔ ((number place : ℕ) (kind : K) → ¬ (BrokenAt all number place kind))

-- the first fault of each table is its least one, here for kinds that are numbers
abbrev pub FirstFaultIsLeast : Type 0
FirstFaultIsLeast = (table : TableRules ℕ) (bytes : List ℕ) → FindsLeast (asked table bytes) (first_fault table bytes)
