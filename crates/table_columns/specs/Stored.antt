-- How records are stored under their names, and what holds of the records of a table of names. This project's own.
use Rattle.std.specs.Prelude.{ℕ, ◌≡◌, ◌≤◌, List, Vec, length, map, All}
use Rattle.std.specs.Global.{Global}
use Rattle.std.specs.List.{IsDistinct}
use Rattle.std.specs.Map.{keys_of, values_of}
use Rattle.std.specs.Str.{bytes_eq}

-- each record is stored under the bytes of its name, and there are at most so many
pub record AreStored {R : Type 0} (name : R → List ℕ) (most : ℕ) (entries : List (Vec ℕ Global × R)) : Type 0 where
  pub named : map (λ key. key.items) (keys_of entries) ≡ map name (values_of entries)
  pub few : length entries ≤ most

-- the records of a table without a fault: at most so many, with names that differ, and each is right
pub record AreNamed {R : Type 0} (name : R → List ℕ) (most : ℕ) (IsRight : R → Type 0) (records : List R) : Type 0 where
  pub few : length records ≤ most
  pub apart : IsDistinct bytes_eq (map name records)
  pub each : All IsRight records
