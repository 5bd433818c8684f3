-- Which rule of a name is broken first.
use Rattle.std.proofs.Common.{◌≡◌, ℕ, true, false, List, Some, None, refl}
use Rattle.table_rows.specs.Faults.{first_broken}
use Rattle.table_columns.specs.declared.kinds.NameKinds.{NameKinds}
use Rattle.table_columns.specs.Columns.{name_rules}
use Rattle.table_columns.specs.Names.{is_among, is_name}

module _ {K : Type 0} (kinds : NameKinds K) (name : List ℕ) (earlier : List (List ℕ)) where
  pub name-none : is_name name ≡ false → first_broken (name_rules kinds name earlier) ≡ Some kinds.name
  unfolding name_rules first_broken
  name-none e = rw e refl

  pub name-twice : is_name name ≡ true → is_among name earlier ≡ true → first_broken (name_rules kinds name earlier) ≡ Some kinds.twice
  unfolding name_rules first_broken
  name-twice e f = rw (e, f) refl

  pub name-new : is_name name ≡ true → is_among name earlier ≡ false → first_broken (name_rules kinds name earlier) ≡ None
  unfolding name_rules first_broken
  name-new e f = rw (e, f) refl
