-- A pool of cuts. This project's own.
use Rattle.std.specs.Prelude.{◌≡◌, ℕ, ◌+◌, ◌*◌, ◌%◌, ◌^◌, ◌≤◌, ℤ, unsigned_abs, List, fold, length, map, take, AllPairs}
use Rattle.cut_pool.specs.Cut.{CutOf}

-- two cuts are of the same limit and displacement
abbrev pub IsSameCut : CutOf → CutOf → Type 0
IsSameCut cut other = (cut.limit ≡ other.limit) × (cut.x ≡ other.x)

-- a pool: no two of its cuts are of the same limit and displacement
pub record IsPool (cuts : List CutOf) : Type 0 where
  pub distinct : AllPairs (λ cut later. IsSameCut cut later → ⊥) cuts
  pub few : length cuts ≤ 2 ^ 31

-- a key with an entry of a displacement worked in
abbrev pub with_entry : ℕ → ℤ → ℕ
with_entry key entry = ((key * 2654435761) % 2 ^ 32 + unsigned_abs entry) % 2 ^ 32

-- the key of a cut: its limit and the entries of its displacement worked into one number. Cuts of the same limit and displacement
-- have the same key, and few others have it.
abbrev pub cut_key : CutOf → ℕ
cut_key cut = fold with_entry cut.limit cut.x

-- the keys of cuts stand before what else is among these keys
abbrev pub KeepsKeys : List CutOf → List ℕ → Type 0
KeepsKeys cuts keys = take (length cuts) keys ≡ map cut_key cuts
