-- What a shelf holds: a finite map from the bytes of a name to the bytes of its file. This project's own.
use Rattle.std.specs.Prelude.{◌≡◌, ◌≢◌, ℕ, List, [], ◌++◌, take, drop, Option, Some, IsSome, is_some, unwrap_or}
use Rattle.std.specs.Option.{option_map}
use Rattle.std.specs.Ordering.{nat_cmp}
use Rattle.std.specs.Cmp.Lexicographic.{slice_cmp}
use Rattle.std.specs.FinMap.{FinMap, get, insert}

-- the files of a shelf, each under the bytes of its name
abbrev pub Files : Type 0
Files = FinMap (slice_cmp nat_cmp) (List ℕ)

-- the name is held
abbrev pub IsHeld : Files → List ℕ → Type 0
IsHeld files name = IsSome (get files name)

-- the bytes held under a name, none where it isn't held
unfoldable pub bytes_of : Files → List ℕ → List ℕ
bytes_of files name = unwrap_or (get files name) []

-- the part of bytes from a place on: as many as there are, up to a limit
abbrev pub part_from : ℕ → ℕ → List ℕ → List ℕ
part_from at limit bytes = take limit (drop at bytes)

-- what is held once the name holds exactly these bytes, and every other name what it held
unfoldable pub with_bytes : Option Files → List ℕ → List ℕ → Option Files
with_bytes held name bytes = option_map (λ files. insert files name bytes) held

-- what is held once the piece stands at the end of the name's bytes, and every other name holds what it held
unfoldable pub with_piece : Option Files → List ℕ → List ℕ → Option Files
with_piece held name piece = option_map (λ files. insert files name (bytes_of files name ++ piece)) held

-- every name but this one holds what it held, and whether the files are told doesn't change
pub record KeepsOthers (name : List ℕ) (before now : Option Files) : Type 0 where
  pub told : is_some now ≡ is_some before
  pub others : (files files_now : Files) → before ≡ Some files → now ≡ Some files_now → (other : List ℕ) → other ≢ name → get files_now other ≡ get files other
