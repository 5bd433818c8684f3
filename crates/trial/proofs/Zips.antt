-- Lists that are told apart place by place.
use Rattle.std.proofs.Common.{◌≡◌, ℕ, zero, suc, ◌+◌, ◌<◌, ◌≤◌, List, [], ◌∷◌, ◌++◌, length, take, drop, set, get_or, refl, ap, subst, sym, ◌∙◌, arith, add-one}
use Rattle.std.specs.Prelude.{All}
use Rattle.std.specs.List.{AllZip, range_with_len}
use Rattle.std.proofs.lemmas.List.{take_more_set, take_all, drop-set-lt, drop-drop, get_or-drop}
use Rattle.std.proofs.lemmas.List.FromFn.{length-range_with_len}
use Rattle.std.proofs.lemmas.Slice.Zip.{AllZip-long}
use Rattle.std.proofs.lemmas.List.Elements.{all_zip_more}

range-suc : (a n : ℕ) → range_with_len a (suc n) ≡ range_with_len a n ++ (a + n) ∷ []
range-suc a zero = let same : a ≡ a + 0 = omega arith in ap (λ k. k ∷ []) same
range-suc a (suc n) =
    let same : (a + 1) + n ≡ a + suc n = omega arith in
    ap (λ r. a ∷ r) (range-suc (a + 1) n) ∙ ap (λ k. a ∷ (range_with_len (a + 1) n ++ k ∷ [])) same

-- the numbers from 0 on, one more
pub range-more : (n : ℕ) → range_with_len 0 (n + 1) ≡ range_with_len 0 n ++ n ∷ []
range-more n = let same : 0 + n ≡ n = omega arith in rw add-one (range-suc 0 n ∙ ap (λ k. range_with_len 0 n ++ k ∷ []) same)

-- the first places of a list that is written, and the others, which are as they were
pub record IsWritten {X : Type 0} (R : X → X → Type 0) (count : ℕ) (old new : List X) : Type 0 where
  pub written : AllZip R (take count old) (take count new)
  pub others : drop count new ≡ drop count old

-- an element that isn't written yet
pub same_at : {X : Type 0} (old new : List X) (i : ℕ) (d : X) → drop i new ≡ drop i old → get_or new i d ≡ get_or old i d
same_at old new i d same =
    let here : i + 0 ≡ i = omega arith in
    ap (λ k. get_or new k d) (sym here) ∙ sym (get_or-drop i new 0 d) ∙ ap (λ s. get_or s 0 d) same ∙ get_or-drop i old 0 d ∙ ap (λ k. get_or old k d) here

-- a list of which nothing is written
pub not_written : {X : Type 0} (R : X → X → Type 0) (xs : List X) → IsWritten R 0 xs xs
not_written R xs = record { written = tt; others = refl }

-- .. one more place
pub written_more : {X : Type 0} (R : X → X → Type 0) (old now : List X) (i : ℕ) (x y : X) → length now ≡ length old → i < length old → x ≡ get_or now i x → R x y
    → IsWritten R i old now → IsWritten R (i + 1) old (set now i y)
written_more R old now i x y long inside here related is =
    let within : i < length now = omega arith in
    record {
      written = subst (λ ys. AllZip R (take (i + 1) old) ys) (sym (take_more_set now i y within))
          (all_zip_more R old (take i now) i x y inside (here ∙ same_at old now i x is.others) is.written related);
      others = drop-set-lt (i + 1) now i y (omega arith) ∙ after;
    }
  where
    after : drop (i + 1) now ≡ drop (i + 1) old
    after = sym (drop-drop 1 i now) ∙ ap (drop 1) is.others ∙ drop-drop 1 i old

-- .. all of them
pub all_written : {X : Type 0} (R : X → X → Type 0) (old now : List X) (i : ℕ) → length now ≡ length old → length old ≤ i → IsWritten R i old now → AllZip R old now
all_written R old now i long past is =
    subst (λ ys. AllZip R old ys) (take_all i now (omega arith)) (subst (λ xs. AllZip R xs (take i now)) (take_all i old past) is.written)

-- what holds of each element holds of one that isn't written yet
pub all_at : {X : Type 0} (P : X → Type 0) (old now : List X) (i : ℕ) (d : X) → All P old → i < length old → drop i now ≡ drop i old → P (get_or now i d)
all_at P old now i d all inside same = subst P (sym (same_at old now i d same)) (all i d inside)

-- what holds of the number of a place and of what stands there
pub zip_at : {X : Type 0} (R : ℕ → X → Type 0) (a n : ℕ) (ys : List X) (i : ℕ) (d : X) → AllZip R (range_with_len a n) ys → i < n → R (a + i) (get_or ys i d)
zip_at R a zero ys i d are inside = absurd (omega arith)
zip_at R a (suc n) [] i d are inside = absurd are
zip_at R a (suc n) (y ∷ ys) zero d are inside = let same : a ≡ a + 0 = omega arith in subst (λ (k : ℕ). R k y) same are.0
zip_at R a (suc n) (y ∷ ys) (suc i) d are inside =
    let same : (a + 1) + i ≡ a + suc i = omega arith in
    subst (λ (k : ℕ). R k (get_or ys i d)) same (zip_at R (a + 1) n ys i d are.1 (omega arith))

pub zip_long : {X : Type 0} (R : ℕ → X → Type 0) (a n : ℕ) (ys : List X) → AllZip R (range_with_len a n) ys → length ys ≡ n
zip_long R a n ys are = AllZip-long R (range_with_len a n) ys are ∙ length-range_with_len a n
