-- What the shelves in memory keep: files one after another, the newest first. This project's own.
use Rattle.std.specs.Prelude.{◌≡◌, ℕ, Bool, true, false, cond, List, [], ◌∷◌, Option, Some, None, is_some}
use Rattle.std.proofs.Common.{sym, ap, ◌∙◌}
use Rattle.std.specs.Ordering.{nat_cmp}
use Rattle.std.specs.Cmp.{eq_by_cmp_equiv}
use Rattle.std.specs.Cmp.Lexicographic.{slice_cmp, nat_list_cmp_total}
use Rattle.std.specs.FinMap.{from_entries, get, get-insert}
use Rattle.shelf_io.specs.Files.{Files, IsHeld}

-- files as pairs of a name and its bytes, the newest first: a name holds what the first pair with it says
abbrev pub files_of : List (List ℕ × List ℕ) → Files
files_of entries = from_entries {R = slice_cmp nat_cmp} entries

-- the name of the newest file, where there is one and it is the one being written
abbrev pub started_of : List (List ℕ × List ℕ) → Bool → Option (List ℕ)
started_of [] is_started = None
started_of (newest ∷ older) is_started = cond is_started (Some newest.0) None

-- the newest file is held
newest_is_held : (newest : List ℕ × List ℕ) (older : List (List ℕ × List ℕ)) → get (files_of (newest ∷ older)) newest.0 ≡ Some newest.1
newest_is_held newest older =
    get-insert nat_list_cmp_total (files_of older) newest.0 newest.1 newest.0
    ∙ ap (λ b. cond b (Some newest.1) (get (files_of older) newest.0)) ((eq_by_cmp_equiv nat_list_cmp_total).refl newest.0)

-- a started name is held
pub started_of-held : (entries : List (List ℕ × List ℕ)) (is_started : Bool) (files : Files) (name : List ℕ)
    → Some (files_of entries) ≡ Some files → started_of entries is_started ≡ Some name → IsHeld files name
started_of-held [] is_started files name told started = absurd (cc)
started_of-held (newest ∷ older) false files name told started = absurd (cc)
started_of-held (newest ∷ older) true files name told started =
    let same_files : files_of (newest ∷ older) ≡ files = cc in
    let same_name : newest.0 ≡ name = cc in
    ap is_some (ap (get files) (sym same_name) ∙ ap (λ m. get m newest.0) (sym same_files) ∙ newest_is_held newest older)
