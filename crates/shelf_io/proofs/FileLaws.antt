-- Laws of the words on what a shelf holds.
--     get-insert-same, get-insert-other, insert-insert, insert-held      what a changed map answers;  the second change of a name stands;  a change to what is held is none
--     bytes_of-insert, bytes_of-held, bytes_of-absent, bytes_of-get       the bytes of a name, from the map
--     is_some-with_bytes, is_some-with_piece      whether the files are told doesn't change
--     with_bytes-with_bytes, with_piece-with_bytes, with_piece-with_piece, with_bytes-with_piece      two changes of one name are one
--     with_piece-nothing, with_piece-empty        an empty piece changes nothing under a name that is held
--     get-with_bytes, bytes_of-with_bytes, get-with_piece, bytes_of-with_piece      what the name holds after a change
--     KeepsOthers-same, KeepsOthers-with_bytes, KeepsOthers-with_piece, KeepsOthers-either, KeepsOthers-trans      which calls leave every other name
--     bytes_of-other            and then its bytes
--     take-joined               the pieces before and a front of one more are a front of all the pieces
use Rattle.std.proofs.Common.{◌≡◌, ◌≢◌, ℕ, Bool, true, false, cond, List, [], ◌++◌, ◌+◌, ◌⊎◌, inl, inr, length, take, drop, take-append-drop, refl, sym, ap, subst, ◌∙◌, append_assoc}
use Rattle.std.proofs.Math.Seq.{take-append-add, take-append_seam}
use Rattle.std.proofs.lemmas.List.{append-nil}
use Rattle.std.proofs.lemmas.Bool.{false_from_ne_true}
use Rattle.std.proofs.lemmas.Map.Views.{tells_apart}
use Rattle.std.proofs.lemmas.Map.Lookups.{exact_bytes}
use Rattle.std.specs.Prelude.{Option, Some, None, IsSome, is_some, unwrap_or}
use Rattle.std.specs.Ordering.{nat_cmp, eq_by_cmp}
use Rattle.std.specs.Cmp.{eq_by_cmp_equiv}
use Rattle.std.specs.Cmp.Lexicographic.{slice_cmp, nat_list_cmp_total}
use Rattle.std.specs.FinMap.{get, insert, get-insert, same_map}
use Rattle.shelf_io.specs.Files.{Files, IsHeld, KeepsOthers, bytes_of, with_bytes, with_piece}

-- whether two names are one
abbrev pub same_name : List ℕ → List ℕ → Bool
same_name a b = eq_by_cmp (slice_cmp nat_cmp) a b

pub same_name-itself : (name : List ℕ) → same_name name name ≡ true
same_name-itself name = (eq_by_cmp_equiv nat_list_cmp_total).refl name

pub same_name-other : (other name : List ℕ) → other ≢ name → same_name other name ≡ false
same_name-other other name apart = false_from_ne_true (same_name other name) (λ h. apart (tells_apart exact_bytes other name h))

pub get-insert-same : (files : Files) (name bytes : List ℕ) → get (insert files name bytes) name ≡ Some bytes
get-insert-same files name bytes =
    get-insert nat_list_cmp_total files name bytes name ∙ ap (λ b. cond b (Some bytes) (get files name)) (same_name-itself name)

pub get-insert-other : (files : Files) (name bytes other : List ℕ) → other ≢ name → get (insert files name bytes) other ≡ get files other
get-insert-other files name bytes other apart =
    get-insert nat_list_cmp_total files name bytes other ∙ ap (λ b. cond b (Some bytes) (get files other)) (same_name-other other name apart)

cond_again : (b : Bool) (x y z : Option (List ℕ)) → cond b x (cond b y z) ≡ cond b x z
cond_again true x y z = refl
cond_again false x y z = refl

pub insert-insert : (files : Files) (name first second : List ℕ) → insert (insert files name first) name second ≡ insert files name second
insert-insert files name first second = same_map nat_list_cmp_total exact_bytes _ _ (λ q.
    get-insert nat_list_cmp_total (insert files name first) name second q
    ∙ ap (cond (same_name q name) (Some second)) (get-insert nat_list_cmp_total files name first q)
    ∙ cond_again (same_name q name) _ _ _
    ∙ sym (get-insert nat_list_cmp_total files name second q))

pub insert-held : (files : Files) (name bytes : List ℕ) → get files name ≡ Some bytes → insert files name bytes ≡ files
insert-held files name bytes is = same_map nat_list_cmp_total exact_bytes _ _ (λ q.
    get-insert nat_list_cmp_total files name bytes q ∙ kept q (same_name q name) refl)
  where
    kept : (q : List ℕ) (b : Bool) → same_name q name ≡ b → cond b (Some bytes) (get files q) ≡ get files q
    kept q true e = sym is ∙ ap (get files) (sym (tells_apart exact_bytes q name e))
    kept q false e = refl

pub bytes_of-insert : (files : Files) (name bytes : List ℕ) → bytes_of (insert files name bytes) name ≡ bytes
unfolding bytes_of
bytes_of-insert files name bytes = ap (λ o. unwrap_or o []) (get-insert-same files name bytes)

pub bytes_of-get : (files other : Files) (name : List ℕ) → get files name ≡ get other name → bytes_of files name ≡ bytes_of other name
unfolding bytes_of
bytes_of-get files other name e = ap (λ o. unwrap_or o []) e

pub bytes_of-held : (files : Files) (name bytes : List ℕ) → get files name ≡ Some bytes → bytes_of files name ≡ bytes
unfolding bytes_of
bytes_of-held files name bytes e = ap (λ o. unwrap_or o []) e

pub bytes_of-absent : (files : Files) (name : List ℕ) → get files name ≡ None → bytes_of files name ≡ []
unfolding bytes_of
bytes_of-absent files name e = ap (λ o. unwrap_or o []) e

-- ---- two changes of one name

pub is_some-with_bytes : (held : Option Files) (name bytes : List ℕ) → is_some (with_bytes held name bytes) ≡ is_some held
unfolding with_bytes
is_some-with_bytes None name bytes = refl
is_some-with_bytes (Some files) name bytes = refl

pub is_some-with_piece : (held : Option Files) (name piece : List ℕ) → is_some (with_piece held name piece) ≡ is_some held
unfolding with_piece
is_some-with_piece None name piece = refl
is_some-with_piece (Some files) name piece = refl

pub with_bytes-with_bytes : (held : Option Files) (name first second : List ℕ) → with_bytes (with_bytes held name first) name second ≡ with_bytes held name second
unfolding with_bytes
with_bytes-with_bytes None name first second = refl
with_bytes-with_bytes (Some files) name first second = ap Some (insert-insert files name first second)

pub with_piece-with_bytes : (held : Option Files) (name bytes piece : List ℕ) → with_piece (with_bytes held name bytes) name piece ≡ with_bytes held name (bytes ++ piece)
unfolding with_bytes with_piece
with_piece-with_bytes None name bytes piece = refl
with_piece-with_bytes (Some files) name bytes piece =
    ap (λ b. Some (insert (insert files name bytes) name (b ++ piece))) (bytes_of-insert files name bytes)
    ∙ ap Some (insert-insert files name bytes (bytes ++ piece))

pub with_piece-with_piece : (held : Option Files) (name first second : List ℕ) → with_piece (with_piece held name first) name second ≡ with_piece held name (first ++ second)
unfolding with_piece
with_piece-with_piece None name first second = refl
with_piece-with_piece (Some files) name first second =
    ap (λ b. Some (insert (insert files name (bytes_of files name ++ first)) name (b ++ second))) (bytes_of-insert files name (bytes_of files name ++ first))
    ∙ ap Some (insert-insert files name (bytes_of files name ++ first) ((bytes_of files name ++ first) ++ second))
    ∙ ap (λ b. Some (insert files name b)) (append_assoc (bytes_of files name) first second)

pub with_bytes-with_piece : (held : Option Files) (name piece bytes : List ℕ) → with_bytes (with_piece held name piece) name bytes ≡ with_bytes held name bytes
unfolding with_bytes with_piece
with_bytes-with_piece None name piece bytes = refl
with_bytes-with_piece (Some files) name piece bytes = ap Some (insert-insert files name (bytes_of files name ++ piece) bytes)

some_of : (o : Option (List ℕ)) → IsSome o → o ≡ Some (unwrap_or o [])
some_of (Some bytes) h = refl
some_of None h = absurd (subst (λ b. IsTrue' b) h tt)
  where
    IsTrue' : Bool → Type 0
    IsTrue' true = ⊥
    IsTrue' false = Unit {0}

pub with_piece-nothing : (files : Files) (name : List ℕ) → IsHeld files name → with_piece (Some files) name [] ≡ Some files
unfolding with_piece bytes_of
with_piece-nothing files name held =
    ap (λ b. Some (insert files name b)) (append-nil (bytes_of files name))
    ∙ ap Some (insert-held files name (bytes_of files name) (some_of (get files name) held))

-- the same where the files may not be told
pub with_piece-empty : (held : Option Files) (name : List ℕ) → ((files : Files) → held ≡ Some files → IsHeld files name) → with_piece held name [] ≡ held
unfolding with_piece
with_piece-empty None name is_held = refl
with_piece-empty (Some files) name is_held = with_piece-nothing files name (is_held files refl)

-- ---- what a name and another one hold after a change, where the shelf tells it

some_same : (a b : Files) → Some a ≡ Some b → a ≡ b
some_same a b e = ap (λ o. unwrap_or o a) e

some_absent : (a : Files) → Some a ≡ None → ⊥
some_absent a e = cc

after_bytes : (held : Option Files) (files files_now : Files) (name bytes : List ℕ) → Some files_now ≡ with_bytes held name bytes → held ≡ Some files → files_now ≡ insert files name bytes
unfolding with_bytes
after_bytes None files files_now name bytes e told = absurd (some_absent files_now e)
after_bytes (Some before) files files_now name bytes e told =
    some_same files_now (insert before name bytes) e ∙ ap (λ m. insert m name bytes) (some_same before files told)

after_piece : (held : Option Files) (files files_now : Files) (name piece : List ℕ) → Some files_now ≡ with_piece held name piece → held ≡ Some files → files_now ≡ insert files name (bytes_of files name ++ piece)
unfolding with_piece
after_piece None files files_now name piece e told = absurd (some_absent files_now e)
after_piece (Some before) files files_now name piece e told =
    some_same files_now (insert before name (bytes_of before name ++ piece)) e ∙ ap (λ m. insert m name (bytes_of m name ++ piece)) (some_same before files told)

got_bytes : (held : Option Files) (files_now : Files) (name bytes : List ℕ) → Some files_now ≡ with_bytes held name bytes → get files_now name ≡ Some bytes
unfolding with_bytes
got_bytes None files_now name bytes e = absurd (some_absent files_now e)
got_bytes (Some before) files_now name bytes e =
    ap (λ m. get m name) (some_same files_now (insert before name bytes) e) ∙ get-insert-same before name bytes

pub get-with_bytes : (held now : Option Files) (name bytes : List ℕ) → now ≡ with_bytes held name bytes
    → (files_now : Files) → now ≡ Some files_now → get files_now name ≡ Some bytes
get-with_bytes held now name bytes e files_now told_now = got_bytes held files_now name bytes (sym told_now ∙ e)

pub bytes_of-with_bytes : (held now : Option Files) (name bytes : List ℕ) → now ≡ with_bytes held name bytes
    → (files_now : Files) → now ≡ Some files_now → bytes_of files_now name ≡ bytes
bytes_of-with_bytes held now name bytes e files_now told_now = bytes_of-held files_now name bytes (get-with_bytes held now name bytes e files_now told_now)

pub get-with_piece : (held now : Option Files) (name piece : List ℕ) → now ≡ with_piece held name piece
    → (files files_now : Files) → held ≡ Some files → now ≡ Some files_now → get files_now name ≡ Some (bytes_of files name ++ piece)
get-with_piece held now name piece e files files_now told told_now =
    ap (λ m. get m name) (after_piece held files files_now name piece (sym told_now ∙ e) told) ∙ get-insert-same files name (bytes_of files name ++ piece)

pub bytes_of-with_piece : (held now : Option Files) (name piece : List ℕ) → now ≡ with_piece held name piece
    → (files files_now : Files) → held ≡ Some files → now ≡ Some files_now → bytes_of files_now name ≡ bytes_of files name ++ piece
bytes_of-with_piece held now name piece e files files_now told told_now =
    bytes_of-held files_now name (bytes_of files name ++ piece) (get-with_piece held now name piece e files files_now told told_now)

-- ---- every other name

pub KeepsOthers-same : (name : List ℕ) (before now : Option Files) → now ≡ before → KeepsOthers name before now
KeepsOthers-same name before now e = record {
  told = ap is_some e;
  others = λ files files_now told told_now other apart. ap (λ m. get m other) (some_same files_now files (sym told_now ∙ e ∙ told));
}

pub KeepsOthers-with_bytes : (name bytes : List ℕ) (before now : Option Files) → now ≡ with_bytes before name bytes → KeepsOthers name before now
KeepsOthers-with_bytes name bytes before now e = record {
  told = ap is_some e ∙ is_some-with_bytes before name bytes;
  others = λ files files_now told told_now other apart.
      ap (λ m. get m other) (after_bytes before files files_now name bytes (sym told_now ∙ e) told) ∙ get-insert-other files name bytes other apart;
}

pub KeepsOthers-with_piece : (name piece : List ℕ) (before now : Option Files) → now ≡ with_piece before name piece → KeepsOthers name before now
KeepsOthers-with_piece name piece before now e = record {
  told = ap is_some e ∙ is_some-with_piece before name piece;
  others = λ files files_now told told_now other apart.
      ap (λ m. get m other) (after_piece before files files_now name piece (sym told_now ∙ e) told)
      ∙ get-insert-other files name (bytes_of files name ++ piece) other apart;
}

pub KeepsOthers-either : (name bytes : List ℕ) (before now : Option Files) → (now ≡ before) ⊎ (now ≡ with_bytes before name bytes) → KeepsOthers name before now
KeepsOthers-either name bytes before now (inl e) = KeepsOthers-same name before now e
KeepsOthers-either name bytes before now (inr e) = KeepsOthers-with_bytes name bytes before now e

told_of : (o : Option Files) → is_some o ≡ true → (files : Files) × (o ≡ Some files)
told_of None h = absurd (cc)
told_of (Some files) h = (files, refl)

pub KeepsOthers-trans : (name : List ℕ) (before middle now : Option Files) → KeepsOthers name before middle → KeepsOthers name middle now → KeepsOthers name before now
KeepsOthers-trans name before middle now first second = record {
  told = second.told ∙ first.told;
  others = λ files files_now told told_now other apart.
      let (files_middle, told_middle) = told_of middle (first.told ∙ ap is_some told) in
      second.others files_middle files_now told_middle told_now other apart ∙ first.others files files_middle told told_middle other apart;
}

pub bytes_of-other : (name : List ℕ) (before now : Option Files) → KeepsOthers name before now
    → (files files_now : Files) → before ≡ Some files → now ≡ Some files_now → (other : List ℕ) → other ≢ name → bytes_of files_now other ≡ bytes_of files other
bytes_of-other name before now kept files files_now told told_now other apart =
    bytes_of-get files_now files other (kept.others files files_now told told_now other apart)

-- ---- a front of what was to be added

-- the pieces before and a front of this one are a front of all the pieces
pub take-joined : (before piece after : List ℕ) (n : ℕ) → (m : ℕ) × (before ++ take n piece ≡ take m (before ++ (piece ++ after)))
take-joined before piece after n = (
  length before + length (take n piece),
  sym (
      take-append-add before (piece ++ after) (length (take n piece))
      ∙ ap (λ l. before ++ l) (ap (take (length (take n piece))) (ap (λ l. l ++ after) (sym (take-append-drop n piece)) ∙ append_assoc (take n piece) (drop n piece) after) ∙ take-append_seam (take n piece) (drop n piece ++ after))),
)
