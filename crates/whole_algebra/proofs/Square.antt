-- Completing the square: a x^T A x = (a x0 + b . y)^2 + y^T (a C - b b^T) y.
use Rattle.std.proofs.Common.{◌≡◌, List, [], ◌∷◌, refl, sym, ◌∙◌, ap, ap₂, ℤ, ◌+ℤ◌, ◌-ℤ◌, ◌*ℤ◌, neg_ℤ}
use Rattle.whole_algebra.specs.Sums.{dot}
use Rattle.whole_algebra.specs.Matrices.{scale, row_quad, quad, schur}
use Rattle.whole_algebra.proofs.FormLaws.{quad-entries_linear, row_quad-plus_lists, row_quad-map_linear}
use Rattle.whole_algebra.proofs.Normal.{ring, x0, x1, x2, x3, x4, x5, lit, opposite_of, ◌⊕◌, ◌⊖◌, ◌⊗◌}

-- the form of what is left under a pivot
pub quad-schur : (a : ℤ) (b : List ℤ) (m : List (List ℤ)) (y : List ℤ) → quad (schur a b m) y ≡ a *ℤ quad m y -ℤ dot b y *ℤ dot b y
quad-schur a [] m y =
    quad-entries_linear a (λ z. a *ℤ z) (λ z. refl) m y
    ∙ ring (x0 ⊗ x1) (x0 ⊗ x1 ⊖ lit 0 ⊗ lit 0) (a ∷ quad m y ∷ []) refl
quad-schur a (c ∷ b) [] [] = ring (lit 0) (x0 ⊗ lit 0 ⊖ lit 0 ⊗ lit 0) (a ∷ []) refl
quad-schur a (c ∷ b) [] (y ∷ ys) =
    ap₂ (λ s t. s +ℤ t) (row_quad-map_linear (neg_ℤ c) (λ z. neg_ℤ c *ℤ z) (λ z. refl) (c ∷ b) y ys) (quad-schur a b [] ys)
    ∙ ring (opposite_of x1 ⊗ (x1 ⊗ (x2 ⊗ x2) ⊕ lit 2 ⊗ (x2 ⊗ x3)) ⊕ (x0 ⊗ lit 0 ⊖ x3 ⊗ x3)) (x0 ⊗ lit 0 ⊖ (x1 ⊗ x2 ⊕ x3) ⊗ (x1 ⊗ x2 ⊕ x3))
    (a ∷ c ∷ y ∷ dot b ys ∷ []) refl
quad-schur a (c ∷ b) (row ∷ rest) [] = ring (lit 0) (x0 ⊗ lit 0 ⊖ lit 0 ⊗ lit 0) (a ∷ []) refl
quad-schur a (c ∷ b) (row ∷ rest) (y ∷ ys) =
    ap₂ (λ s t. s +ℤ t)
    (row_quad-plus_lists (scale a row) (scale (neg_ℤ c) (c ∷ b)) y ys
    ∙ ap₂ (λ s t. s +ℤ t) (row_quad-map_linear a (λ z. a *ℤ z) (λ z. refl) row y ys)
    (row_quad-map_linear (neg_ℤ c) (λ z. neg_ℤ c *ℤ z) (λ z. refl) (c ∷ b) y ys))
    (quad-schur a b rest ys)
    ∙ ring ((x0 ⊗ x4 ⊕ opposite_of x1 ⊗ (x1 ⊗ (x2 ⊗ x2) ⊕ lit 2 ⊗ (x2 ⊗ x3))) ⊕ (x0 ⊗ x5 ⊖ x3 ⊗ x3)) (x0 ⊗ (x4 ⊕ x5) ⊖ (x1 ⊗ x2 ⊕ x3) ⊗ (x1 ⊗ x2 ⊕ x3))
    (a ∷ c ∷ y ∷ dot b ys ∷ row_quad row y ys ∷ quad rest ys ∷ []) refl

pub completed_square : (a : ℤ) (b : List ℤ) (m : List (List ℤ)) (x : ℤ) (y : List ℤ)
    → a *ℤ quad ((a ∷ b) ∷ m) (x ∷ y) ≡ (a *ℤ x +ℤ dot b y) *ℤ (a *ℤ x +ℤ dot b y) +ℤ quad (schur a b m) y
completed_square a b m x y =
    ring (x0 ⊗ ((x0 ⊗ (x1 ⊗ x1) ⊕ lit 2 ⊗ (x1 ⊗ x2)) ⊕ x3)) ((x0 ⊗ x1 ⊕ x2) ⊗ (x0 ⊗ x1 ⊕ x2) ⊕ (x0 ⊗ x3 ⊖ x2 ⊗ x2)) (a ∷ x ∷ dot b y ∷ quad m y ∷ []) refl
    ∙ ap (λ t. (a *ℤ x +ℤ dot b y) *ℤ (a *ℤ x +ℤ dot b y) +ℤ t) (sym (quad-schur a b m y))
