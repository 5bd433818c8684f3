-- Quadratic forms are linear in their matrix.
use Rattle.std.proofs.Common.{◌≡◌, List, [], ◌∷◌, map, refl, sym, ◌∙◌, ap, ap₂, ℤ, pos, ◌+ℤ◌, ◌-ℤ◌, ◌*ℤ◌, neg_ℤ}
use Rattle.whole_algebra.specs.Sums.{int_sum, dot}
use Rattle.whole_algebra.specs.Matrices.{plus_lists, row_quad, quad, entries, plus_matrix, minus_matrix, plus_diagonal}
use Rattle.whole_algebra.proofs.Ring.{add_zero, zero_add, mul_zero}
use Rattle.whole_algebra.proofs.Normal.{ring, x0, x1, x2, x3, x4, x5, lit, opposite_of, ◌⊕◌, ◌⊗◌}

-- ---- lists added place by place
pub int_sum-plus_lists : (xs ys : List ℤ) → int_sum (plus_lists xs ys) ≡ int_sum xs +ℤ int_sum ys
int_sum-plus_lists [] ys = sym (zero_add (int_sum ys))
int_sum-plus_lists (x ∷ xs) [] = sym (add_zero (x +ℤ int_sum xs))
int_sum-plus_lists (x ∷ xs) (y ∷ ys) =
    ap (λ t. (x +ℤ y) +ℤ t) (int_sum-plus_lists xs ys)
    ∙ ring ((x0 ⊕ x1) ⊕ (x2 ⊕ x3)) ((x0 ⊕ x2) ⊕ (x1 ⊕ x3)) (x ∷ y ∷ int_sum xs ∷ int_sum ys ∷ []) refl

pub dot-plus_lists : (xs ys zs : List ℤ) → dot (plus_lists xs ys) zs ≡ dot xs zs +ℤ dot ys zs
dot-plus_lists [] ys zs = sym (zero_add (dot ys zs))
dot-plus_lists (x ∷ xs) [] zs = sym (add_zero (dot (x ∷ xs) zs))
dot-plus_lists (x ∷ xs) (y ∷ ys) [] = refl
dot-plus_lists (x ∷ xs) (y ∷ ys) (z ∷ zs) =
    ap (λ t. (x +ℤ y) *ℤ z +ℤ t) (dot-plus_lists xs ys zs)
    ∙ ring ((x0 ⊕ x1) ⊗ x2 ⊕ (x3 ⊕ x4)) ((x0 ⊗ x2 ⊕ x3) ⊕ (x1 ⊗ x2 ⊕ x4)) (x ∷ y ∷ z ∷ dot xs zs ∷ dot ys zs ∷ []) refl

-- f keeps a factor
pub dot-map_linear : (a : ℤ) (f : ℤ → ℤ) → ((z : ℤ) → f z ≡ a *ℤ z) → (xs ys : List ℤ) → dot (map f xs) ys ≡ a *ℤ dot xs ys
dot-map_linear a f h [] ys = sym (mul_zero a)
dot-map_linear a f h (x ∷ xs) [] = sym (mul_zero a)
dot-map_linear a f h (x ∷ xs) (y ∷ ys) =
    ap₂ (λ s t. s *ℤ y +ℤ t) (h x) (dot-map_linear a f h xs ys)
    ∙ ring ((x0 ⊗ x1) ⊗ x2 ⊕ x0 ⊗ x3) (x0 ⊗ (x1 ⊗ x2 ⊕ x3)) (a ∷ x ∷ y ∷ dot xs ys ∷ []) refl

-- h is the sum of f and a multiple of g
pub dot-map_sum : (a : ℤ) (h f g : ℤ → ℤ) → ((z : ℤ) → h z ≡ f z +ℤ a *ℤ g z) → (xs ys : List ℤ)
    → dot (map h xs) ys ≡ dot (map f xs) ys +ℤ a *ℤ dot (map g xs) ys
dot-map_sum a h f g e [] ys = ring (lit 0) (lit 0 ⊕ x0 ⊗ lit 0) (a ∷ []) refl
dot-map_sum a h f g e (x ∷ xs) [] = ring (lit 0) (lit 0 ⊕ x0 ⊗ lit 0) (a ∷ []) refl
dot-map_sum a h f g e (x ∷ xs) (y ∷ ys) =
    ap₂ (λ s t. s *ℤ y +ℤ t) (e x) (dot-map_sum a h f g e xs ys)
    ∙ ring ((x1 ⊕ x0 ⊗ x2) ⊗ x3 ⊕ (x4 ⊕ x0 ⊗ x5)) ((x1 ⊗ x3 ⊕ x4) ⊕ x0 ⊗ (x2 ⊗ x3 ⊕ x5))
    (a ∷ f x ∷ g x ∷ y ∷ dot (map f xs) ys ∷ dot (map g xs) ys ∷ []) refl

-- ---- rows
pub row_quad-plus_lists : (r s : List ℤ) (x : ℤ) (y : List ℤ) → row_quad (plus_lists r s) x y ≡ row_quad r x y +ℤ row_quad s x y
row_quad-plus_lists [] s x y = sym (zero_add (row_quad s x y))
row_quad-plus_lists (a ∷ b) [] x y = sym (add_zero (row_quad (a ∷ b) x y))
row_quad-plus_lists (a ∷ b) (c ∷ d) x y =
    ap (λ t. (a +ℤ c) *ℤ (x *ℤ x) +ℤ pos 2 *ℤ (x *ℤ t)) (dot-plus_lists b d y)
    ∙ ring ((x0 ⊕ x1) ⊗ (x2 ⊗ x2) ⊕ lit 2 ⊗ (x2 ⊗ (x3 ⊕ x4))) ((x0 ⊗ (x2 ⊗ x2) ⊕ lit 2 ⊗ (x2 ⊗ x3)) ⊕ (x1 ⊗ (x2 ⊗ x2) ⊕ lit 2 ⊗ (x2 ⊗ x4)))
    (a ∷ c ∷ x ∷ dot b y ∷ dot d y ∷ []) refl

pub row_quad-map_linear : (a : ℤ) (f : ℤ → ℤ) → ((z : ℤ) → f z ≡ a *ℤ z) → (r : List ℤ) (x : ℤ) (y : List ℤ)
    → row_quad (map f r) x y ≡ a *ℤ row_quad r x y
row_quad-map_linear a f h [] x y = sym (mul_zero a)
row_quad-map_linear a f h (c ∷ b) x y =
    ap₂ (λ s t. s *ℤ (x *ℤ x) +ℤ pos 2 *ℤ (x *ℤ t)) (h c) (dot-map_linear a f h b y)
    ∙ ring ((x0 ⊗ x1) ⊗ (x2 ⊗ x2) ⊕ lit 2 ⊗ (x2 ⊗ (x0 ⊗ x3))) (x0 ⊗ (x1 ⊗ (x2 ⊗ x2) ⊕ lit 2 ⊗ (x2 ⊗ x3)))
    (a ∷ c ∷ x ∷ dot b y ∷ []) refl

pub row_quad-map_sum : (a : ℤ) (h f g : ℤ → ℤ) → ((z : ℤ) → h z ≡ f z +ℤ a *ℤ g z) → (r : List ℤ) (x : ℤ) (y : List ℤ)
    → row_quad (map h r) x y ≡ row_quad (map f r) x y +ℤ a *ℤ row_quad (map g r) x y
row_quad-map_sum a h f g e [] x y = ring (lit 0) (lit 0 ⊕ x0 ⊗ lit 0) (a ∷ []) refl
row_quad-map_sum a h f g e (c ∷ b) x y =
    ap₂ (λ s t. s *ℤ (x *ℤ x) +ℤ pos 2 *ℤ (x *ℤ t)) (e c) (dot-map_sum a h f g e b y)
    ∙ ring ((x1 ⊕ x0 ⊗ x2) ⊗ (x3 ⊗ x3) ⊕ lit 2 ⊗ (x3 ⊗ (x4 ⊕ x0 ⊗ x5)))
    ((x1 ⊗ (x3 ⊗ x3) ⊕ lit 2 ⊗ (x3 ⊗ x4)) ⊕ x0 ⊗ (x2 ⊗ (x3 ⊗ x3) ⊕ lit 2 ⊗ (x3 ⊗ x5)))
    (a ∷ f c ∷ g c ∷ x ∷ dot (map f b) y ∷ dot (map g b) y ∷ []) refl

-- ---- matrices
pub quad-nil : (m : List (List ℤ)) → quad m [] ≡ pos 0
quad-nil [] = refl
quad-nil (row ∷ rest) = refl

two_sums : (a b c d : ℤ) → (a +ℤ b) +ℤ (c +ℤ d) ≡ (a +ℤ c) +ℤ (b +ℤ d)
two_sums a b c d = ring ((x0 ⊕ x1) ⊕ (x2 ⊕ x3)) ((x0 ⊕ x2) ⊕ (x1 ⊕ x3)) (a ∷ b ∷ c ∷ d ∷ []) refl

pub quad-plus_matrix : (m n : List (List ℤ)) (x : List ℤ) → quad (plus_matrix m n) x ≡ quad m x +ℤ quad n x
quad-plus_matrix [] n x = sym (zero_add (quad n x))
quad-plus_matrix (r ∷ m) [] x = sym (add_zero (quad (r ∷ m) x))
quad-plus_matrix (r ∷ m) (s ∷ n) [] = refl
quad-plus_matrix (r ∷ m) (s ∷ n) (x ∷ y) =
    ap₂ (λ u v. u +ℤ v) (row_quad-plus_lists r s x y) (quad-plus_matrix m n y)
    ∙ two_sums (row_quad r x y) (row_quad s x y) (quad m y) (quad n y)

pub quad-entries_linear : (a : ℤ) (f : ℤ → ℤ) → ((z : ℤ) → f z ≡ a *ℤ z) → (m : List (List ℤ)) (x : List ℤ)
    → quad (entries f m) x ≡ a *ℤ quad m x
quad-entries_linear a f h [] x = sym (mul_zero a)
quad-entries_linear a f h (r ∷ m) [] = sym (mul_zero a)
quad-entries_linear a f h (r ∷ m) (x ∷ y) =
    ap₂ (λ u v. u +ℤ v) (row_quad-map_linear a f h r x y) (quad-entries_linear a f h m y)
    ∙ ring (x0 ⊗ x1 ⊕ x0 ⊗ x2) (x0 ⊗ (x1 ⊕ x2)) (a ∷ row_quad r x y ∷ quad m y ∷ []) refl

pub quad-entries_sum : (a : ℤ) (h f g : ℤ → ℤ) → ((z : ℤ) → h z ≡ f z +ℤ a *ℤ g z) → (m : List (List ℤ)) (x : List ℤ)
    → quad (entries h m) x ≡ quad (entries f m) x +ℤ a *ℤ quad (entries g m) x
quad-entries_sum a h f g e [] x = ring (lit 0) (lit 0 ⊕ x0 ⊗ lit 0) (a ∷ []) refl
quad-entries_sum a h f g e (r ∷ m) [] = ring (lit 0) (lit 0 ⊕ x0 ⊗ lit 0) (a ∷ []) refl
quad-entries_sum a h f g e (r ∷ m) (x ∷ y) =
    ap₂ (λ u v. u +ℤ v) (row_quad-map_sum a h f g e r x y) (quad-entries_sum a h f g e m y)
    ∙ ring ((x1 ⊕ x0 ⊗ x2) ⊕ (x3 ⊕ x0 ⊗ x4)) ((x1 ⊕ x3) ⊕ x0 ⊗ (x2 ⊕ x4))
    (a ∷ row_quad (map f r) x y ∷ row_quad (map g r) x y ∷ quad (entries f m) y ∷ quad (entries g m) y ∷ []) refl

pub map_same : (f : ℤ → ℤ) → ((z : ℤ) → f z ≡ z) → (xs : List ℤ) → map f xs ≡ xs
map_same f h [] = refl
map_same f h (x ∷ xs) = ap₂ ◌∷◌ (h x) (map_same f h xs)

pub entries_same : (f : ℤ → ℤ) → ((z : ℤ) → f z ≡ z) → (m : List (List ℤ)) → entries f m ≡ m
entries_same f h [] = refl
entries_same f h (r ∷ m) = ap₂ ◌∷◌ (map_same f h r) (entries_same f h m)

pub quad-minus_matrix : (m n : List (List ℤ)) (x : List ℤ) → quad (minus_matrix m n) x ≡ quad m x -ℤ quad n x
quad-minus_matrix m n x =
    quad-plus_matrix m (entries neg_ℤ n) x
    ∙ ap (λ t. quad m x +ℤ t)
    (quad-entries_linear (neg_ℤ (pos 1)) neg_ℤ (λ z. ring (opposite_of x0) (opposite_of (lit 1) ⊗ x0) (z ∷ []) refl) n x
    ∙ ring (opposite_of (lit 1) ⊗ x0) (opposite_of x0) (quad n x ∷ []) refl)

-- ---- the diagonal
-- the sum of d_i x_i^2
abbrev pub diag_quad : List ℤ → List ℤ → ℤ
diag_quad [] x = pos 0
diag_quad (e ∷ d) [] = pos 0
diag_quad (e ∷ d) (x ∷ y) = e *ℤ (x *ℤ x) +ℤ diag_quad d y

pub diag_quad-nil : (d : List ℤ) → diag_quad d [] ≡ pos 0
diag_quad-nil [] = refl
diag_quad-nil (e ∷ d) = refl

pub diag_quad-plus_lists : (d e x : List ℤ) → diag_quad (plus_lists d e) x ≡ diag_quad d x +ℤ diag_quad e x
diag_quad-plus_lists [] e x = sym (zero_add (diag_quad e x))
diag_quad-plus_lists (c ∷ d) [] x = sym (add_zero (diag_quad (c ∷ d) x))
diag_quad-plus_lists (c ∷ d) (b ∷ e) [] = refl
diag_quad-plus_lists (c ∷ d) (b ∷ e) (x ∷ y) =
    ap (λ t. (c +ℤ b) *ℤ (x *ℤ x) +ℤ t) (diag_quad-plus_lists d e y)
    ∙ ring ((x0 ⊕ x1) ⊗ (x2 ⊗ x2) ⊕ (x3 ⊕ x4)) ((x0 ⊗ (x2 ⊗ x2) ⊕ x3) ⊕ (x1 ⊗ (x2 ⊗ x2) ⊕ x4)) (c ∷ b ∷ x ∷ diag_quad d y ∷ diag_quad e y ∷ []) refl

pub diag_quad-map_linear : (a : ℤ) (f : ℤ → ℤ) → ((z : ℤ) → f z ≡ a *ℤ z) → (d x : List ℤ) → diag_quad (map f d) x ≡ a *ℤ diag_quad d x
diag_quad-map_linear a f h [] x = sym (mul_zero a)
diag_quad-map_linear a f h (c ∷ d) [] = sym (mul_zero a)
diag_quad-map_linear a f h (c ∷ d) (x ∷ y) =
    ap₂ (λ s t. s *ℤ (x *ℤ x) +ℤ t) (h c) (diag_quad-map_linear a f h d y)
    ∙ ring ((x0 ⊗ x1) ⊗ (x2 ⊗ x2) ⊕ x0 ⊗ x3) (x0 ⊗ (x1 ⊗ (x2 ⊗ x2) ⊕ x3)) (a ∷ c ∷ x ∷ diag_quad d y ∷ []) refl

pub quad-plus_diagonal : (m : List (List ℤ)) (d x : List ℤ) → quad (plus_diagonal m d) x ≡ quad m x +ℤ diag_quad d x
quad-plus_diagonal m [] x = sym (add_zero (quad m x))
quad-plus_diagonal [] (e ∷ d) [] = refl
quad-plus_diagonal [] (e ∷ d) (x ∷ y) =
    ap (λ t. row_quad (e ∷ []) x y +ℤ t) (quad-plus_diagonal [] d y)
    ∙ ring ((x0 ⊗ (x1 ⊗ x1) ⊕ lit 2 ⊗ (x1 ⊗ lit 0)) ⊕ (lit 0 ⊕ x2)) (lit 0 ⊕ (x0 ⊗ (x1 ⊗ x1) ⊕ x2)) (e ∷ x ∷ diag_quad d y ∷ []) refl
quad-plus_diagonal ([] ∷ rest) (e ∷ d) [] = refl
quad-plus_diagonal ([] ∷ rest) (e ∷ d) (x ∷ y) =
    ap (λ t. row_quad (e ∷ []) x y +ℤ t) (quad-plus_diagonal rest d y)
    ∙ ring ((x0 ⊗ (x1 ⊗ x1) ⊕ lit 2 ⊗ (x1 ⊗ lit 0)) ⊕ (x3 ⊕ x2)) ((lit 0 ⊕ x3) ⊕ (x0 ⊗ (x1 ⊗ x1) ⊕ x2)) (e ∷ x ∷ diag_quad d y ∷ quad rest y ∷ []) refl
quad-plus_diagonal ((a ∷ b) ∷ rest) (e ∷ d) [] = refl
quad-plus_diagonal ((a ∷ b) ∷ rest) (e ∷ d) (x ∷ y) =
    ap (λ t. row_quad ((a +ℤ e) ∷ b) x y +ℤ t) (quad-plus_diagonal rest d y)
    ∙ ring (((x0 ⊕ x1) ⊗ (x2 ⊗ x2) ⊕ lit 2 ⊗ (x2 ⊗ x3)) ⊕ (x4 ⊕ x5)) (((x0 ⊗ (x2 ⊗ x2) ⊕ lit 2 ⊗ (x2 ⊗ x3)) ⊕ x4) ⊕ (x1 ⊗ (x2 ⊗ x2) ⊕ x5))
    (a ∷ e ∷ x ∷ dot b y ∷ quad rest y ∷ diag_quad d y ∷ []) refl
