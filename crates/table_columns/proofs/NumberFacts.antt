-- Which rule of a number is broken first.
use Rattle.std.proofs.Common.{◌≡◌, ℕ, ℤ, true, false, List, Some, None, refl, arith}
use Rattle.std.specs.Prelude.{◌<ℤ◌, ◌≤ℤ◌, int_le, int_lt}
use Rattle.std.proofs.lemmas.Int.{ints}
use Rattle.text_num.specs.Decimal.{decimal_of}
use Rattle.table_rows.specs.Faults.{first_broken}
use Rattle.table_columns.specs.Columns.{number_rules}
use Rattle.table_columns.specs.declared.kinds.NumberKinds.{NumberKinds}

le-kept : (a b : ℤ) → a ≤ℤ b → int_le a b ≡ true
le-kept a b h = grind (arith, ints)

le-broken : (a b : ℤ) → b <ℤ a → int_le a b ≡ false
le-broken a b h = grind (arith, ints)

-- what a test of signed numbers says
pub lt-tested : (a b : ℤ) → int_lt a b ≡ true → a <ℤ b
lt-tested a b h = grind (arith, ints)

pub le-tested : (a b : ℤ) → int_lt b a ≡ false → a ≤ℤ b
le-tested a b h = grind (arith, ints)

module _ {K : Type 0} (kinds : NumberKinds K) (places : ℕ) (least most : ℤ) (text : List ℕ) where
  -- outside the grammar
  pub number-none : decimal_of places text ≡ None → first_broken (number_rules kinds places least most text) ≡ Some kinds.number
  unfolding number_rules first_broken
  number-none e = rw e refl

  -- below the least number, above the most, and between them
  pub number-below : (value : ℤ) → decimal_of places text ≡ Some value → value <ℤ least
      → first_broken (number_rules kinds places least most text) ≡ Some kinds.range
  unfolding number_rules first_broken
  number-below value e below = rw (e, le-broken least value below) refl

  pub number-above : (value : ℤ) → decimal_of places text ≡ Some value → least ≤ℤ value → most <ℤ value
      → first_broken (number_rules kinds places least most text) ≡ Some kinds.range
  unfolding number_rules first_broken
  number-above value e low above = rw (e, le-kept least value low, le-broken value most above) refl

  pub number-within : (value : ℤ) → decimal_of places text ≡ Some value → least ≤ℤ value → value ≤ℤ most
      → first_broken (number_rules kinds places least most text) ≡ None
  unfolding number_rules first_broken
  number-within value e low high = rw (e, le-kept least value low, le-kept value most high) refl
