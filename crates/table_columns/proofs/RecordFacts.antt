-- Which rule of a record is broken first, and what holds of the records of a table of names.
use Rattle.std.proofs.Common.{◌≡◌, ◌∙◌, ◌+◌, ◌-◌, ◌≤◌, ℕ, Bool, true, false, List, [], ◌∷◌, ◌++◌, Option, Some, None, length, map, refl, sym, ap, arith, drop, subst, length-append}
use Rattle.std.specs.Prelude.{if◌then◌else◌, nat_lt, slice_get}
use Rattle.std.specs.List.{IsDistinct}
use Rattle.std.proofs.lemmas.Bool.Decides.{nat_tests}
use Rattle.std.proofs.lemmas.List.{length-map}
use Rattle.std.proofs.lemmas.List.Elements.{All-nil, All-push}
use Rattle.table_rows.specs.Faults.{Rule, first_broken}
use Rattle.table_rows.proofs.FaultFacts.{first_broken-left, first_broken-right}
use Rattle.table_columns.specs.declared.shape.Shape.{Shape}
use Rattle.table_columns.specs.Columns.{NamedRules, name_at, name_rules, named_rules, record_rules, text_at}
use Rattle.table_columns.specs.Names.{is_among}
use Rattle.table_columns.specs.Stored.{AreNamed}
use Rattle.table_columns.proofs.StoredFacts.{apart-push}

-- a fact on the text of a field
pub at-field : (P : List ℕ → Type 0) (row : List (List ℕ)) (place : ℕ) (text : List ℕ) → slice_get row place ≡ Some text → P text → P (text_at row place)
at-field P row place text e p =
    let same : text_at row place ≡ text = rw e refl in
    subst P (sym same) p

-- where no rule of a column is broken the first broken one is among those after it
pub past : {K : Type 0} (front back : List (Rule K)) (found : Option K) → first_broken front ≡ None → first_broken back ≡ found → first_broken (front ++ back) ≡ found
past front back found kept e = first_broken-right front back kept ∙ e

-- a record whose number is within its bound
pub record-few : {K : Type 0} (shape : Shape K) (number : ℕ) (row : List (List ℕ)) → first_broken (record_rules shape number row) ≡ None → number ≤ shape.most
unfolding record_rules first_broken
record-few {K} shape number row e = by (nat_lt shape.most number) refl e
  where
    rest : Option K
    rest = first_broken (drop 1 (record_rules shape number row))

    by : (t : Bool) → nat_lt shape.most number ≡ t → (if t then Some shape.too_many else rest) ≡ None → number ≤ shape.most
    by true t f = cc f
    by false t f = grind (arith, nat_tests)

-- ---- the rules of a record, one part after the other

module _ {K : Type 0} (asks : NamedRules K) (number : ℕ) (row names : List (List ℕ)) where
  pub broken-record : (kind : K) → first_broken (record_rules asks.shape number row) ≡ Some kind → first_broken (named_rules asks number row names) ≡ Some kind
  unfolding named_rules
  broken-record kind e = first_broken-left _ _ kind e

  pub broken-name : (kind : K) → first_broken (record_rules asks.shape number row) ≡ None → first_broken (name_rules asks.name (name_at row) names) ≡ Some kind
      → first_broken (named_rules asks number row names) ≡ Some kind
  unfolding named_rules
  broken-name kind e f = past _ _ _ e (first_broken-left _ _ kind f)

  pub broken-columns : (found : Option K) → first_broken (record_rules asks.shape number row) ≡ None → first_broken (name_rules asks.name (name_at row) names) ≡ None
      → first_broken (asks.columns row) ≡ found → first_broken (named_rules asks number row names) ≡ found
  unfolding named_rules
  broken-columns found e f g = past _ _ _ e (past _ _ _ f g)

-- ---- the records before, by what they were read as

module _ {V : Type 0} (value_of : List (List ℕ) → V) (values : List V) (before : List (List (List ℕ))) (is : values ≡ map value_of before) where
  pub same-number : (size : ℕ) → size ≡ length values → size + 2 ≡ length before + 2
  same-number size e = ap (λ (n : ℕ). n + 2) (e ∙ ap length is ∙ length-map before value_of)

  pub same-names : (name_of : V → List ℕ) → ((row : List (List ℕ)) → name_of (value_of row) ≡ name_at row) → map name_of values ≡ map name_at before
  same-names name_of named = ap (map name_of) is ∙ each before
    where
      each : (rows : List (List (List ℕ))) → map name_of (map value_of rows) ≡ map name_at rows
      each [] = refl
      each (row ∷ rows) = rw (named row, each rows) refl

-- ---- records with names that differ

pub none-named : {R : Type 0} (name : R → List ℕ) (most : ℕ) (IsRight : R → Type 0) → AreNamed name most IsRight []
unfolding IsDistinct
none-named name most IsRight = record { few = omega arith; apart = tt; each = All-nil IsRight }

pub named-push : {R : Type 0} (name : R → List ℕ) (most : ℕ) (IsRight : R → Type 0) (before after : List R) (added : R) → length before + 2 ≤ most
    → is_among (name added) (map name before) ≡ false → IsRight added → after ≡ before ++ added ∷ [] → AreNamed name (most - 1) IsRight before → AreNamed name (most - 1) IsRight after
named-push name most IsRight before after added few other right more are = rw more record {
  few = omega (arith, few, length-append before (added ∷ []));
  apart = apart-push name before added are.apart other;
  each = All-push IsRight before added are.each right;
}
