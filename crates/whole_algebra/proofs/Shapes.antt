-- Lists and matrices place by place, and what keeps a triangle a triangle.
use Rattle.std.proofs.Common.{◌≡◌, ℕ, zero, suc, ◌+◌, ◌<◌, ◌≤◌, List, [], ◌∷◌, map, length, refl, sym, ◌∙◌, ap, ap₂, arith, ℤ, pos, ◌+ℤ◌, ◌-ℤ◌, ◌*ℤ◌, neg_ℤ, ◌≤ℤ◌}
use Rattle.std.proofs.lemmas.Int.{ints}
use Rattle.std.proofs.lemmas.List.{length-map}
use Rattle.whole_algebra.specs.Sums.{int_sum, dot}
use Rattle.whole_algebra.specs.Rounding.{floor_over, gap_over}
use Rattle.whole_algebra.specs.Matrices.{at, plus_lists, scale, row_quad, quad, entries, schur, diagonal, off_sums, plus_diagonal, slacks, lower_over, upper_over, IsTriangle, padded}
use Rattle.whole_algebra.specs.Grid.{row_at}
use Rattle.whole_algebra.proofs.Ring.{add_zero, zero_add, mul_zero}
use Rattle.whole_algebra.proofs.SumLaws.{dot-nil}
use Rattle.whole_algebra.proofs.FormLaws.{quad-nil}
use Rattle.whole_algebra.proofs.Normal.{ring, x0, x1, x2, lit, opposite_of, ◌⊕◌, ◌⊖◌, ◌⊗◌}

-- ---- lists
pub at-map : (f : ℤ → ℤ) → f (pos 0) ≡ pos 0 → (xs : List ℤ) (i : ℕ) → at (map f xs) i ≡ f (at xs i)
at-map f e [] i = sym e
at-map f e (x ∷ xs) zero = refl
at-map f e (x ∷ xs) (suc i) = at-map f e xs i

pub at-plus_lists : (xs ys : List ℤ) (i : ℕ) → at (plus_lists xs ys) i ≡ at xs i +ℤ at ys i
at-plus_lists [] ys i = sym (zero_add (at ys i))
at-plus_lists (x ∷ xs) [] i = sym (add_zero (at (x ∷ xs) i))
at-plus_lists (x ∷ xs) (y ∷ ys) zero = refl
at-plus_lists (x ∷ xs) (y ∷ ys) (suc i) = at-plus_lists xs ys i

pub length-plus_lists : (xs ys : List ℤ) (n : ℕ) → length xs ≡ n → length ys ≡ n → length (plus_lists xs ys) ≡ n
length-plus_lists [] ys n e f = f
length-plus_lists (x ∷ xs) [] n e f = e
length-plus_lists (x ∷ xs) (y ∷ ys) zero e f = absurd (omega arith)
length-plus_lists (x ∷ xs) (y ∷ ys) (suc n) e f = ap suc (length-plus_lists xs ys n (omega arith) (omega arith))

pub length-padded : (n : ℕ) (x : List ℤ) → length (padded n x) ≡ n
length-padded zero x = refl
length-padded (suc n) [] = ap suc (length-padded n [])
length-padded (suc n) (z ∷ x) = ap suc (length-padded n x)

pub dot-padded : (n : ℕ) (b y : List ℤ) → length b ≡ n → dot b (padded n y) ≡ dot b y
dot-padded n [] y e = refl
dot-padded zero (c ∷ b) y e = absurd (omega arith)
dot-padded (suc n) (c ∷ b) [] e =
    ap (λ t. c *ℤ pos 0 +ℤ t) (dot-padded n b [] (omega arith) ∙ dot-nil b) ∙ ring (x0 ⊗ lit 0 ⊕ lit 0) (lit 0) (c ∷ []) refl
dot-padded (suc n) (c ∷ b) (z ∷ y) e = ap (λ t. c *ℤ z +ℤ t) (dot-padded n b y (omega arith))

-- ---- triangles
pub row_quad-zero : (row y : List ℤ) → row_quad row (pos 0) y ≡ pos 0
row_quad-zero [] y = refl
row_quad-zero (a ∷ b) y = ring (x0 ⊗ (lit 0 ⊗ lit 0) ⊕ lit 2 ⊗ (lit 0 ⊗ x1)) (lit 0) (a ∷ dot b y ∷ []) refl

row_quad-padded : (n : ℕ) (row : List ℤ) (x : ℤ) (y : List ℤ) → length row ≡ suc n → row_quad row x (padded n y) ≡ row_quad row x y
row_quad-padded n [] x y e = refl
row_quad-padded n (a ∷ b) x y e = ap (λ t. a *ℤ (x *ℤ x) +ℤ pos 2 *ℤ (x *ℤ t)) (dot-padded n b y (omega arith))

-- a triangle of n rows sees n numbers
pub quad-padded : (n : ℕ) (m : List (List ℤ)) (x : List ℤ) → IsTriangle n m → quad m (padded n x) ≡ quad m x
quad-padded zero [] x t = refl
quad-padded zero (row ∷ rest) x t = absurd t
quad-padded (suc n) [] x t = absurd t
quad-padded (suc n) (row ∷ rest) [] t =
    ap₂ (λ s u. s +ℤ u) (row_quad-zero row (padded n [])) (quad-padded n rest [] t.1 ∙ quad-nil rest)
quad-padded (suc n) (row ∷ rest) (z ∷ x) t = ap₂ (λ s u. s +ℤ u) (row_quad-padded n row z x t.0) (quad-padded n rest x t.1)

pub length-triangle : (n : ℕ) (m : List (List ℤ)) → IsTriangle n m → length m ≡ n
length-triangle zero [] t = refl
length-triangle zero (row ∷ rest) t = absurd t
length-triangle (suc n) [] t = absurd t
length-triangle (suc n) (row ∷ rest) t = ap suc (length-triangle n rest t.1)

pub length-row_at : (n : ℕ) (m : List (List ℤ)) (k : ℕ) → IsTriangle n m → k < n → length (row_at m k) + k ≡ n
length-row_at zero m k t lt = absurd (omega arith)
length-row_at (suc n) [] k t lt = absurd t
length-row_at (suc n) (row ∷ rest) zero t lt = let e = t.0 in omega arith
length-row_at (suc n) (row ∷ rest) (suc k) t lt = let e = length-row_at n rest k t.1 (omega arith) in omega arith

-- no row stands past the last one
pub row_at-past : (n : ℕ) (m : List (List ℤ)) (k : ℕ) → IsTriangle n m → n ≤ k → row_at m k ≡ []
row_at-past n [] k t le = refl
row_at-past zero (row ∷ rest) k t le = absurd t
row_at-past (suc n) (row ∷ rest) zero t le = absurd (omega arith)
row_at-past (suc n) (row ∷ rest) (suc k) t le = row_at-past n rest k t.1 (omega arith)

pub triangle-entries : (f : ℤ → ℤ) (n : ℕ) (m : List (List ℤ)) → IsTriangle n m → IsTriangle n (entries f m)
triangle-entries f zero [] t = tt
triangle-entries f zero (row ∷ rest) t = absurd t
triangle-entries f (suc n) [] t = absurd t
triangle-entries f (suc n) (row ∷ rest) t = (length-map row f ∙ t.0, triangle-entries f n rest t.1)

pub length-diagonal : (n : ℕ) (m : List (List ℤ)) → IsTriangle n m → length (diagonal m) ≡ n
length-diagonal zero [] t = refl
length-diagonal zero (row ∷ rest) t = absurd t
length-diagonal (suc n) [] t = absurd t
length-diagonal (suc n) ([] ∷ rest) t = absurd (omega (arith, t.0))
length-diagonal (suc n) ((a ∷ b) ∷ rest) t = ap suc (length-diagonal n rest t.1)

pub length-off_sums : (n : ℕ) (m : List (List ℤ)) → IsTriangle n m → length (off_sums m) ≡ n
length-off_sums zero [] t = refl
length-off_sums zero (row ∷ rest) t = absurd t
length-off_sums (suc n) [] t = absurd t
length-off_sums (suc n) ([] ∷ rest) t = absurd (omega (arith, t.0))
length-off_sums (suc n) ((a ∷ b) ∷ rest) t = ap suc (length-plus_lists b (off_sums rest) n (omega (arith, t.0)) (length-off_sums n rest t.1))

pub triangle-plus_diagonal : (n : ℕ) (m : List (List ℤ)) (d : List ℤ) → IsTriangle n m → length d ≤ n → IsTriangle n (plus_diagonal m d)
triangle-plus_diagonal n m [] t le = t
triangle-plus_diagonal zero [] (e ∷ d) t le = absurd (omega arith)
triangle-plus_diagonal zero (row ∷ rest) (e ∷ d) t le = absurd t
triangle-plus_diagonal (suc n) [] (e ∷ d) t le = absurd t
triangle-plus_diagonal (suc n) ([] ∷ rest) (e ∷ d) t le = absurd (omega (arith, t.0))
triangle-plus_diagonal (suc n) ((a ∷ b) ∷ rest) (e ∷ d) t le = (t.0, triangle-plus_diagonal n rest d t.1 (omega arith))

pub triangle-lower_over : (a : ℤ) (n : ℕ) (m : List (List ℤ)) → IsTriangle n m → IsTriangle n (lower_over a m)
triangle-lower_over a n m t =
    triangle-plus_diagonal n (entries (floor_over a) m) (map neg_ℤ (slacks a m)) (triangle-entries (floor_over a) n m t)
    (omega (arith, length-map (slacks a m) neg_ℤ, length-off_sums n (entries (gap_over a) m) (triangle-entries (gap_over a) n m t)))

pub triangle-upper_over : (a : ℤ) (n : ℕ) (m : List (List ℤ)) → IsTriangle n m → IsTriangle n (upper_over a m)
triangle-upper_over a n m t =
    let g = triangle-entries (gap_over a) n m t in
    triangle-plus_diagonal n (plus_diagonal (entries (floor_over a) m) (diagonal (entries (gap_over a) m))) (slacks a m)
    (triangle-plus_diagonal n (entries (floor_over a) m) (diagonal (entries (gap_over a) m)) (triangle-entries (floor_over a) n m t)
    (omega (arith, length-diagonal n (entries (gap_over a) m) g)))
    (omega (arith, length-off_sums n (entries (gap_over a) m) g))

pub triangle-schur : (a : ℤ) (n : ℕ) (b : List ℤ) (m : List (List ℤ)) → length b ≡ n → IsTriangle n m → IsTriangle n (schur a b m)
triangle-schur a n [] m e t = triangle-entries (λ z. a *ℤ z) n m t
triangle-schur a zero (c ∷ b) m e t = absurd (omega arith)
triangle-schur a (suc n) (c ∷ b) [] e t = absurd t
triangle-schur a (suc n) (c ∷ b) (row ∷ rest) e t = (
  length-plus_lists (scale a row) (scale (neg_ℤ c) (c ∷ b)) (suc n) (length-map row (λ z. a *ℤ z) ∙ t.0)
      (length-map (c ∷ b) (λ z. neg_ℤ c *ℤ z) ∙ e),
  triangle-schur a n b rest (omega arith) t.1,
)

-- ---- diagonals
pub at-diagonal-entries : (f : ℤ → ℤ) → f (pos 0) ≡ pos 0 → (m : List (List ℤ)) (i : ℕ) → at (diagonal (entries f m)) i ≡ f (at (diagonal m) i)
at-diagonal-entries f e [] i = sym e
at-diagonal-entries f e ([] ∷ rest) zero = sym e
at-diagonal-entries f e ((a ∷ b) ∷ rest) zero = refl
at-diagonal-entries f e ([] ∷ rest) (suc i) = at-diagonal-entries f e rest i
at-diagonal-entries f e ((a ∷ b) ∷ rest) (suc i) = at-diagonal-entries f e rest i

pub at-diagonal-plus_diagonal : (m : List (List ℤ)) (d : List ℤ) (i : ℕ) → at (diagonal (plus_diagonal m d)) i ≡ at (diagonal m) i +ℤ at d i
at-diagonal-plus_diagonal m [] i = sym (add_zero (at (diagonal m) i))
at-diagonal-plus_diagonal [] (e ∷ d) zero = sym (zero_add e)
at-diagonal-plus_diagonal [] (e ∷ d) (suc i) = at-diagonal-plus_diagonal [] d i
at-diagonal-plus_diagonal ([] ∷ rest) (e ∷ d) zero = sym (zero_add e)
at-diagonal-plus_diagonal ([] ∷ rest) (e ∷ d) (suc i) = at-diagonal-plus_diagonal rest d i
at-diagonal-plus_diagonal ((a ∷ b) ∷ rest) (e ∷ d) zero = refl
at-diagonal-plus_diagonal ((a ∷ b) ∷ rest) (e ∷ d) (suc i) = at-diagonal-plus_diagonal rest d i

pub at-diagonal-schur : (a : ℤ) (b : List ℤ) (m : List (List ℤ)) (i : ℕ) → at (diagonal (schur a b m)) i ≡ a *ℤ at (diagonal m) i -ℤ at b i *ℤ at b i
at-diagonal-schur a [] m i =
    at-diagonal-entries (λ z. a *ℤ z) (mul_zero a) m i
    ∙ ring (x0 ⊗ x1) (x0 ⊗ x1 ⊖ lit 0 ⊗ lit 0) (a ∷ at (diagonal m) i ∷ []) refl
at-diagonal-schur a (c ∷ b) [] zero = ring (opposite_of x1 ⊗ x1) (x0 ⊗ lit 0 ⊖ x1 ⊗ x1) (a ∷ c ∷ []) refl
at-diagonal-schur a (c ∷ b) [] (suc i) = at-diagonal-schur a b [] i
at-diagonal-schur a (c ∷ b) ([] ∷ rest) zero = ring (opposite_of x1 ⊗ x1) (x0 ⊗ lit 0 ⊖ x1 ⊗ x1) (a ∷ c ∷ []) refl
at-diagonal-schur a (c ∷ b) ([] ∷ rest) (suc i) = at-diagonal-schur a b rest i
at-diagonal-schur a (c ∷ b) ((p ∷ r) ∷ rest) zero = ring (x0 ⊗ x2 ⊕ opposite_of x1 ⊗ x1) (x0 ⊗ x2 ⊖ x1 ⊗ x1) (a ∷ c ∷ p ∷ []) refl
at-diagonal-schur a (c ∷ b) ((p ∷ r) ∷ rest) (suc i) = at-diagonal-schur a b rest i

-- ---- sums off the diagonal
int_sum-map_at_most : (f : ℤ → ℤ) → ((z : ℤ) → f z ≤ℤ pos 1) → (b : List ℤ) → int_sum (map f b) ≤ℤ pos (length b)
int_sum-map_at_most f h [] = omega (arith, ints)
int_sum-map_at_most f h (c ∷ b) = let one = h c in let more = int_sum-map_at_most f h b in omega (arith, ints)

at-map_at_most : (f : ℤ → ℤ) → ((z : ℤ) → f z ≤ℤ pos 1) → (b : List ℤ) (i : ℕ) → at (map f b) i ≤ℤ pos 1
at-map_at_most f h [] i = omega (arith, ints)
at-map_at_most f h (c ∷ b) zero = h c
at-map_at_most f h (c ∷ b) (suc i) = at-map_at_most f h b i

-- entries of at most 1 have sums of at most the number of rows
pub at-off_sums_at_most : (f : ℤ → ℤ) → ((z : ℤ) → f z ≤ℤ pos 1) → (n : ℕ) (m : List (List ℤ)) (i : ℕ) → IsTriangle n m
    → at (off_sums (entries f m)) i ≤ℤ pos n
at-off_sums_at_most f h zero [] i t = omega (arith, ints)
at-off_sums_at_most f h zero (row ∷ rest) i t = absurd t
at-off_sums_at_most f h (suc n) [] i t = absurd t
at-off_sums_at_most f h (suc n) ([] ∷ rest) i t = absurd (omega (arith, t.0))
at-off_sums_at_most f h (suc n) ((a ∷ b) ∷ rest) zero t =
    let e : length b ≡ n = omega (arith, t.0) in
    let le = int_sum-map_at_most f h b in
    omega (arith, ints)
at-off_sums_at_most f h (suc n) ((a ∷ b) ∷ rest) (suc i) t =
    let one = at-map_at_most f h b i in
    let more = at-off_sums_at_most f h n rest i t.1 in
    let split = at-plus_lists (map f b) (off_sums (entries f rest)) i in
    omega (arith, ints)
