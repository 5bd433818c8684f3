-- Triangles of rows: their shape, and what a written row leaves of it.
use Rattle.std.proofs.Common.{◌≡◌, ℕ, zero, suc, ◌+◌, ◌-◌, ◌<◌, ◌≤◌, List, [], ◌∷◌, ◌++◌, length, get_or, take, drop, replicate, refl, sym, ◌∙◌, ap, ap₂, subst, arith, append_assoc, ℤ, pos}
use Rattle.std.specs.Prelude.{slice_set}
use Rattle.std.proofs.lemmas.Grind.{common_steps}
use Rattle.lent_parts.specs.Triangle.{IsKeptTriangle, IsTri, zero_tri, tri_row, refilled}

-- ---- rows
pub length-zeros : (n : ℕ) → length (replicate n (pos 0)) ≡ n
length-zeros zero = refl
length-zeros (suc n) = ap suc (length-zeros n)

-- an entry that is put back
pub put_back : {X : Type 0} (xs : List X) (k : ℕ) (y d : X) → slice_set (slice_set xs k y) k (get_or xs k d) ≡ xs
put_back [] k y d = refl
put_back (x ∷ xs) zero y d = refl
put_back (x ∷ xs) (suc k) y d = ap (λ t. x ∷ t) (put_back xs k y d)

-- an entry that is written twice
pub written_twice : {X : Type 0} (xs : List X) (k : ℕ) (y z : X) → slice_set (slice_set xs k y) k z ≡ slice_set xs k z
written_twice [] k y z = refl
written_twice (x ∷ xs) zero y z = refl
written_twice (x ∷ xs) (suc k) y z = ap (λ t. x ∷ t) (written_twice xs k y z)

take_all : (xs ys : List ℤ) → take (length xs) (xs ++ ys) ≡ xs
take_all [] ys = refl
take_all (x ∷ xs) ys = ap (λ t. x ∷ t) (take_all xs ys)

-- a row that was filled to its length is what it was filled with
pub refilled_whole : (row filled : List ℤ) → length filled ≡ length row → refilled row filled ≡ filled
refilled_whole row filled e = ap (λ n. take n (filled ++ drop (length filled) row)) (sym e) ∙ take_all filled (drop (length filled) row)

-- ---- the shape of a triangle
pub IsTri-zero_tri : (n : ℕ) → IsTri n (zero_tri n)
IsTri-zero_tri zero = tt
IsTri-zero_tri (suc n) = (length-zeros (suc n), IsTri-zero_tri n)

pub length-IsTri : (n : ℕ) (rows : List (List ℤ)) → IsTri n rows → length rows ≡ n
length-IsTri zero [] t = refl
length-IsTri zero (row ∷ rest) t = absurd t
length-IsTri (suc n) [] t = absurd t
length-IsTri (suc n) (row ∷ rest) t = ap suc (length-IsTri n rest t.1)

pub length-tri_row : (n : ℕ) (rows : List (List ℤ)) (k : ℕ) → IsTri n rows → k < n → length (tri_row rows k) ≡ n - k
length-tri_row zero rows k t lt = absurd (omega arith)
length-tri_row (suc n) [] k t lt = absurd t
length-tri_row (suc n) (row ∷ rest) zero t lt = let e = t.0 in omega arith
length-tri_row (suc n) (row ∷ rest) (suc k) t lt =
    let e = length-tri_row n rest k t.1 (omega arith) in
    omega arith

-- a row of the old length in place of row k
pub IsTri-slice_set : (n : ℕ) (rows : List (List ℤ)) (k : ℕ) (row : List ℤ) → IsTri n rows → length row ≡ n - k → IsTri n (slice_set rows k row)
IsTri-slice_set zero [] k row t e = tt
IsTri-slice_set zero (r ∷ rest) k row t e = absurd t
IsTri-slice_set (suc n) [] k row t e = absurd t
IsTri-slice_set (suc n) (r ∷ rest) zero row t e = (omega arith, t.1)
IsTri-slice_set (suc n) (r ∷ rest) (suc k) row t e = (t.0, IsTri-slice_set n rest k row t.1 (omega arith))

-- ---- the rows of zeros, as a loop makes them
pub more_zeros : (n k : ℕ) (rows : List (List ℤ)) → k < n → rows ++ zero_tri (n - k) ≡ zero_tri n
    → (rows ++ replicate (n - k) (pos 0) ∷ []) ++ zero_tri (n - (k + 1)) ≡ zero_tri n
more_zeros n k rows lt e =
    append_assoc rows (replicate (n - k) (pos 0) ∷ []) (zero_tri (n - (k + 1)))
    ∙ ap (λ t. rows ++ t) (first_of (n - k) (n - (k + 1)) (omega arith))
    ∙ e
  where
    first_of : (d c : ℕ) → d ≡ suc c → replicate d (pos 0) ∷ zero_tri c ≡ zero_tri d
    first_of zero c e = absurd (omega arith)
    first_of (suc d) c e = ap (λ j. replicate (suc d) (pos 0) ∷ zero_tri j) (omega arith)

-- the rows of zeros with the first one held in its place
pub made_of_zeros : (n : ℕ) (rows : List (List ℤ)) (held : List ℤ) → rows ++ zero_tri (n - n) ≡ zero_tri n → held ≡ replicate n (pos 0)
    → (slice_set rows 0 held ≡ zero_tri n) × IsTri n (slice_set rows 0 held)
made_of_zeros n rows held e f =
    let same : slice_set rows 0 held ≡ zero_tri n = ap₂ (λ r h. slice_set r 0 h) whole f ∙ held_in_place n in
    (same, subst (IsTri n) (sym same) (IsTri-zero_tri n))
  where
    none_left : n - n ≡ 0
    none_left = omega arith

    append_nil_lem : (xs : List (List ℤ)) → xs ++ [] ≡ xs
    append_nil_lem [] = refl
    append_nil_lem (x ∷ xs) = ap (λ t. x ∷ t) (append_nil_lem xs)

    whole : rows ≡ zero_tri n
    whole = sym (append_nil_lem rows) ∙ ap (λ j. rows ++ zero_tri j) (sym none_left) ∙ e

    held_in_place : (n : ℕ) → slice_set (zero_tri n) 0 (replicate n (pos 0)) ≡ zero_tri n
    held_in_place zero = refl
    held_in_place (suc n) = refl

-- the row that was held while it was written, in its place
pub row_given_back : (old : List (List ℤ)) (rows : List (List ℤ)) (k : ℕ) (held filled : List ℤ)
    → slice_set rows k held ≡ old → slice_set rows k filled ≡ slice_set old k filled
row_given_back old rows k held filled e = sym (written_twice rows k held filled) ∙ ap (λ t. slice_set t k filled) e

length-refilled : (row filled : List ℤ) → length (refilled row filled) ≡ length row
length-refilled row filled = grind (arith, common_steps)

-- what is written in a row plays no part in the rows before it
take-written : {X : Type 0} (xs : List X) (k : ℕ) (y : X) → take k (slice_set xs k y) ≡ take k xs
take-written [] k y = refl
take-written (x ∷ xs) zero y = refl
take-written (x ∷ xs) (suc k) y = ap (λ t. x ∷ t) (take-written xs k y)

-- A triangle of n rows whose row k was taken out to be lent: `rows` are those left, with that row, `held`, missing in
-- place k.
pub record IsTakenOut (n : ℕ) (old rows : List (List ℤ)) (k : ℕ) (held : List ℤ) : Type 0 where
  pub shape : IsTri n old
  pub few : n ≤ 64
  pub within : k < n
  pub len : length rows ≡ n
  pub same : slice_set rows k held ≡ old
  pub row : held ≡ tri_row old k

-- the row has its places
pub long_row : {n : ℕ} {old rows : List (List ℤ)} {k : ℕ} {held : List ℤ} → IsTakenOut n old rows k held → length held ≡ n - k
long_row {n} {old} {rows} {k} {held} out = ap length out.row ∙ length-tri_row n old k out.shape out.within

-- the triangle keeps what it keeps, whatever is written in the places of the row
pub IsKeptTriangle-refilled : {n : ℕ} {old rows : List (List ℤ)} {k : ℕ} {held : List ℤ} → IsTakenOut n old rows k held → (filled : List ℤ)
    → IsKeptTriangle rows k (refilled held filled)
IsKeptTriangle-refilled {n} {old} {rows} {k} {held} out filled =
    let few = out.few in
    let within = out.within in
    let len = out.len in
    record {
      few = omega arith;
      within = λ _. omega arith;
      shape = subst (λ m. IsTri m (slice_set rows k (refilled held filled))) (sym len)
          (subst (IsTri n) (sym (row_given_back old rows k held (refilled held filled) out.same))
          (IsTri-slice_set n old k (refilled held filled) out.shape (length-refilled held filled ∙ long_row out)));
    }

-- and it ends in its place
pub row_given : {n : ℕ} {old rows : List (List ℤ)} {k : ℕ} {held : List ℤ} → IsTakenOut n old rows k held → (filled : List ℤ)
    → slice_set rows k (refilled held filled) ≡ slice_set old k (refilled (tri_row old k) filled)
row_given {n} {old} {rows} {k} {held} out filled =
    row_given_back old rows k held (refilled held filled) out.same ∙ ap (λ row. slice_set old k (refilled row filled)) out.row

-- the rows before it are those of the triangle
pub rows_kept : {n : ℕ} {old rows : List (List ℤ)} {k : ℕ} {held : List ℤ} → IsTakenOut n old rows k held → take k rows ≡ take k old
rows_kept {n} {old} {rows} {k} {held} out = sym (take-written rows k held) ∙ ap (take k) out.same

-- a triangle has its shape, however it is kept
pub kept_shape : (rows : List (List ℤ)) (place : ℕ) (held : List ℤ) (tri : List (List ℤ)) → IsKeptTriangle rows place held → slice_set rows place held ≡ tri → IsTri (length tri) tri
kept_shape rows place held tri kept is =
    let shape : IsTri (length rows) tri = subst (IsTri (length rows)) is kept.shape in
    subst (λ n. IsTri n tri) (sym (length-IsTri (length rows) tri shape)) shape

-- row k is taken out, where another one was held before
pub taken_out : (rows : List (List ℤ)) (place : ℕ) (first : List ℤ) (old left : List (List ℤ)) (k : ℕ) (held : List ℤ)
    → IsKeptTriangle rows place first → slice_set rows place first ≡ old → k < length old
    → held ≡ tri_row (slice_set rows place first) k → slice_set left k held ≡ slice_set rows place first → length left ≡ length rows
    → IsTakenOut (length old) old left k held
taken_out rows place first old left k held kept is lt row same len =
    let tall = length-IsTri (length rows) old (subst (IsTri (length rows)) is kept.shape) in
    let few = kept.few in
    record {
      shape = kept_shape rows place first old kept is;
      few = omega arith;
      within = lt;
      len = len ∙ sym tall;
      same = same ∙ is;
      row = row ∙ ap (λ rows. tri_row rows k) is;
    }
