-- Laws of the files that a shelf in memory keeps.
--     find-at         what a scan from a place finds: the file there, if it has the name, and else what a scan from the next place finds
--     files_of-scan   a name holds what a scan from the front finds
--     files_of-newest, with_bytes-newest, with_piece-newest      a newer file of a name, and a longer one
use Rattle.std.proofs.Common.{◌≡◌, ℕ, suc, ◌<◌, ◌+◌, Bool, true, false, cond, List, [], ◌∷◌, ◌++◌, length, drop, get_or, refl, sym, ap, ◌∙◌, add-one}
use Rattle.std.proofs.Math.Seq.{drop-cons}
use Rattle.std.proofs.lemmas.Map.Text.{is_eq-slice_cmp}
use Rattle.std.specs.Prelude.{Option, Some, bytes_eq, slice_set}
use Rattle.std.specs.Ordering.{nat_cmp}
use Rattle.std.specs.Cmp.Lexicographic.{slice_cmp, nat_list_cmp_total}
use Rattle.std.specs.FinMap.{get, find, insert, get-from_entries}
use Rattle.shelf_io.specs.Files.{with_bytes, with_piece}
use Rattle.shelf_io.specs.Stored.{files_of, started_of, started_of-held}
use Rattle.shelf_io.proofs.FileLaws.{bytes_of-insert, insert-insert, with_piece-nothing}

-- what a scan from the front finds under a name
abbrev pub scan : List ℕ → List (List ℕ × List ℕ) → Option (List ℕ)
scan name entries = find (slice_cmp nat_cmp) name entries

scan-cons : (name : List ℕ) (e : List ℕ × List ℕ) (es : List (List ℕ × List ℕ)) → scan name (e ∷ es) ≡ cond (bytes_eq name e.0) (Some e.1) (scan name es)
scan-cons name e es = ap (λ b. cond b (Some e.1) (scan name es)) (is_eq-slice_cmp name e.0)

pub scan-at : (name : List ℕ) (es : List (List ℕ × List ℕ)) (i : ℕ) (e : List ℕ × List ℕ) (b : Bool) → i < length es → e ≡ get_or es i e → b ≡ bytes_eq name e.0 → scan name (drop i es) ≡ cond b (Some e.1) (scan name (drop (i + 1) es))
scan-at name es i e b within is named =
    ap (scan name) (drop-cons es i e within)
    ∙ ap (λ x. scan name (x ∷ drop (suc i) es)) (sym is)
    ∙ scan-cons name e (drop (suc i) es)
    ∙ ap (λ c. cond c (Some e.1) (scan name (drop (suc i) es))) (sym named)
    ∙ ap (λ j. cond b (Some e.1) (scan name (drop j es))) (sym (add-one i))

pub files_of-scan : (es : List (List ℕ × List ℕ)) (name : List ℕ) → get (files_of es) name ≡ scan name es
files_of-scan es name = get-from_entries nat_list_cmp_total es name

pub with_bytes-newest : (es : List (List ℕ × List ℕ)) (name bytes : List ℕ) → with_bytes (Some (files_of es)) name bytes ≡ Some (files_of ((name, bytes) ∷ es))
unfolding with_bytes
with_bytes-newest es name bytes = refl

pub with_piece-newest : (es : List (List ℕ × List ℕ)) (name bytes piece : List ℕ) → with_piece (Some (files_of ((name, bytes) ∷ es))) name piece ≡ Some (files_of ((name, bytes ++ piece) ∷ es))
unfolding with_piece
with_piece-newest es name bytes piece =
    ap (λ b. Some (insert (insert (files_of es) name bytes) name (b ++ piece))) (bytes_of-insert (files_of es) name bytes)
    ∙ ap Some (insert-insert (files_of es) name bytes (bytes ++ piece))

-- the file at the front grew by the piece
pub with_piece-set : (es : List (List ℕ × List ℕ)) (is_started : Bool) (name piece : List ℕ) (before now : List ℕ × List ℕ)
    → started_of es is_started ≡ Some name → before ≡ get_or es 0 before → now ≡ (before.0, before.1 ++ piece)
    → Some (files_of (slice_set es 0 now)) ≡ with_piece (Some (files_of es)) name piece
with_piece-set [] is_started name piece before now started is grown = absurd (cc)
with_piece-set (e ∷ older) false name piece before now started is grown = absurd (cc)
with_piece-set (e ∷ older) true name piece before now started is grown =
    let named : e.0 ≡ name = cc in
    ap (λ n. Some (files_of (n ∷ older))) grown
    ∙ ap (λ b. Some (files_of ((b.0, b.1 ++ piece) ∷ older))) is
    ∙ sym (with_piece-newest older e.0 e.1 piece)
    ∙ ap (λ n. with_piece (Some (files_of (e ∷ older))) n piece) named

-- an empty piece adds nothing to the started file
pub with_piece-started : (es : List (List ℕ × List ℕ)) (is_started : Bool) (name : List ℕ)
    → started_of es is_started ≡ Some name → with_piece (Some (files_of es)) name [] ≡ Some (files_of es)
with_piece-started es is_started name started =
    with_piece-nothing (files_of es) name (started_of-held es is_started (files_of es) name refl started)
