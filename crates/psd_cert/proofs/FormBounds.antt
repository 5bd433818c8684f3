-- A form that is nowhere negative has entries no greater than its diagonal. So where a lower chain doesn't stop, the
-- matrix fits as soon as its diagonal does.
use Rattle.std.proofs.Common.{◌≡◌, ℕ, zero, suc, ◌+◌, ◌-◌, ◌^◌, ◌<◌, ◌≤◌, false, List, [], ◌∷◌, length, refl, ◌∙◌, ap, ap₂, subst, arith, ℤ, pos, ◌+ℤ◌, ◌-ℤ◌, ◌*ℤ◌, neg_ℤ, ◌≤ℤ◌, unsigned_abs}
use Rattle.std.proofs.lemmas.Int.{ints}
use Rattle.std.proofs.lemmas.List.Elements.{All-from_get_or}
use Rattle.whole_algebra.specs.Sums.{dot}
use Rattle.whole_algebra.specs.Matrices.{at, quad, diagonal, lower_over, IsTriangle}
use Rattle.whole_algebra.specs.Chains.{stops, chain_steps}
use Rattle.whole_algebra.specs.Grid.{row_at}
use Rattle.whole_algebra.proofs.SumLaws.{dot-nil}
use Rattle.whole_algebra.proofs.FormLaws.{quad-nil}
use Rattle.whole_algebra.proofs.ChainLaws.{lower_nonneg}
use Rattle.whole_algebra.proofs.Places.{at-diagonal}
use Rattle.whole_algebra.proofs.Normal.{ring, x0, x1, x2, x3, lit, opposite_of, ◌⊕◌, ◌⊖◌, ◌⊗◌}
use Rattle.whole_algebra.proofs.Shapes.{row_quad-zero}
use Rattle.lent_parts.proofs.Triangles.{length-IsTri, length-tri_row}
use Rattle.psd_cert.specs.Sizes.{RowFits, Fits}

-- ---- the form at one or two places
one_place : ℕ → ℤ → List ℤ
one_place zero w = w ∷ []
one_place (suc k) w = pos 0 ∷ one_place k w

length-one_place : (k : ℕ) (w : ℤ) → length (one_place k w) ≡ suc k
unfolding one_place
length-one_place zero w = refl
length-one_place (suc k) w = ap suc (length-one_place k w)

dot-one_place : (b : List ℤ) (k : ℕ) (w : ℤ) → dot b (one_place k w) ≡ at b k *ℤ w
unfolding one_place
dot-one_place [] k w = ring (lit 0) (lit 0 ⊗ x0) (w ∷ []) refl
dot-one_place (c ∷ b) zero w = ap (λ t. c *ℤ w +ℤ t) (dot-nil b) ∙ ring (x0 ⊗ x1 ⊕ lit 0) (x0 ⊗ x1) (c ∷ w ∷ []) refl
dot-one_place (c ∷ b) (suc k) w = ap (λ t. c *ℤ pos 0 +ℤ t) (dot-one_place b k w) ∙ ring (x0 ⊗ lit 0 ⊕ x1 ⊗ x2) (x1 ⊗ x2) (c ∷ at b k ∷ w ∷ []) refl

quad-skip : (row : List ℤ) (rest : List (List ℤ)) (y : List ℤ) → quad (row ∷ rest) (pos 0 ∷ y) ≡ quad rest y
quad-skip row rest y = ap (λ t. t +ℤ quad rest y) (row_quad-zero row y) ∙ ring (lit 0 ⊕ x0) x0 (quad rest y ∷ []) refl

-- at one place the form is its diagonal entry
quad-one_place : (k : ℕ) (m : List (List ℤ)) (w : ℤ) → quad m (one_place k w) ≡ at (row_at m k) 0 *ℤ (w *ℤ w)
unfolding one_place
quad-one_place k [] w = ring (lit 0) (lit 0 ⊗ (x0 ⊗ x0)) (w ∷ []) refl
quad-one_place zero ([] ∷ rest) w = ap (λ t. pos 0 +ℤ t) (quad-nil rest) ∙ ring (lit 0 ⊕ lit 0) (lit 0 ⊗ (x0 ⊗ x0)) (w ∷ []) refl
quad-one_place zero ((a ∷ b) ∷ rest) w =
    ap₂ (λ s t. a *ℤ (w *ℤ w) +ℤ pos 2 *ℤ (w *ℤ s) +ℤ t) (dot-nil b) (quad-nil rest)
    ∙ ring (x0 ⊗ (x1 ⊗ x1) ⊕ lit 2 ⊗ (x1 ⊗ lit 0) ⊕ lit 0) (x0 ⊗ (x1 ⊗ x1)) (a ∷ w ∷ []) refl
quad-one_place (suc k) (row ∷ rest) w = quad-skip row rest (one_place k w) ∙ quad-one_place k rest w

two_places : ℕ → ℕ → ℤ → List ℤ
two_places zero k w = pos 1 ∷ one_place k w
two_places (suc i) k w = pos 0 ∷ two_places i k w

length-two_places : (i k : ℕ) (w : ℤ) → length (two_places i k w) ≡ i + suc (suc k)
unfolding two_places
length-two_places zero k w = let e = length-one_place k w in omega arith
length-two_places (suc i) k w = let e = length-two_places i k w in omega arith

-- with 1 at one place and w at another, it is two diagonal entries and twice the entry between them
quad-two_places : (i k j : ℕ) (m : List (List ℤ)) (w : ℤ) → j ≡ i + suc k
    → quad m (two_places i k w) ≡ at (row_at m i) 0 +ℤ pos 2 *ℤ (at (row_at m i) (suc k) *ℤ w) +ℤ at (row_at m j) 0 *ℤ (w *ℤ w)
unfolding two_places
quad-two_places i k j [] w e = ring (lit 0) (lit 0 ⊕ lit 2 ⊗ (lit 0 ⊗ x0) ⊕ lit 0 ⊗ (x0 ⊗ x0)) (w ∷ []) refl
quad-two_places zero k zero (row ∷ rest) w e = absurd (omega arith)
quad-two_places zero k (suc j) ([] ∷ rest) w e =
    ap (λ t. pos 0 +ℤ t) (quad-one_place k rest w ∙ ap (λ l. at (row_at rest l) 0 *ℤ (w *ℤ w)) (same k j e))
    ∙ ring (lit 0 ⊕ x0 ⊗ (x1 ⊗ x1)) (lit 0 ⊕ lit 2 ⊗ (lit 0 ⊗ x1) ⊕ x0 ⊗ (x1 ⊗ x1)) (at (row_at rest j) 0 ∷ w ∷ []) refl
  where
    same : (k j : ℕ) → suc j ≡ 0 + suc k → k ≡ j
    same k j e = omega arith
quad-two_places zero k (suc j) ((a ∷ b) ∷ rest) w e =
    ap₂ (λ s t. a *ℤ (pos 1 *ℤ pos 1) +ℤ pos 2 *ℤ (pos 1 *ℤ s) +ℤ t) (dot-one_place b k w) (quad-one_place k rest w ∙ ap (λ l. at (row_at rest l) 0 *ℤ (w *ℤ w)) (same k j e))
    ∙ ring (x0 ⊗ (lit 1 ⊗ lit 1) ⊕ lit 2 ⊗ (lit 1 ⊗ (x1 ⊗ x2)) ⊕ x3 ⊗ (x2 ⊗ x2)) (x0 ⊕ lit 2 ⊗ (x1 ⊗ x2) ⊕ x3 ⊗ (x2 ⊗ x2)) (a ∷ at b k ∷ w ∷ at (row_at rest j) 0 ∷ []) refl
  where
    same : (k j : ℕ) → suc j ≡ 0 + suc k → k ≡ j
    same k j e = omega arith
quad-two_places (suc i) k zero (row ∷ rest) w e = absurd (omega arith)
quad-two_places (suc i) k (suc j) (row ∷ rest) w e = quad-skip row rest (two_places i k w) ∙ quad-two_places i k j rest w (omega arith)

-- ---- bounds
size_between : (z : ℤ) (k : ℕ) → neg_ℤ (pos k) ≤ℤ z → z ≤ℤ pos k → unsigned_abs z ≤ k
size_between z k h g = omega (arith, ints)

by_two : (a d c q p : ℤ) (k : ℕ) → pos 0 ≤ℤ q → pos 0 ≤ℤ p → a ≤ℤ pos k → d ≤ℤ pos k → q ≡ a +ℤ pos 2 *ℤ c +ℤ d → p ≡ a -ℤ pos 2 *ℤ c +ℤ d → unsigned_abs c ≤ k
by_two a d c q p k h1 h2 h3 h4 e f = omega (arith, ints)

entry_within : (n : ℕ) (m : List (List ℤ)) (i k : ℕ) → i < n → k < n - i
    → ((x : List ℤ) → length x ≤ n → pos 0 ≤ℤ quad m x) → ((j : ℕ) → at (diagonal m) j ≤ℤ pos (2 ^ 61)) → unsigned_abs (at (row_at m i) k) ≤ 2 ^ 61
entry_within n m i zero lt below nonneg high =
    let q = nonneg (one_place i (pos 1)) (let e = length-one_place i (pos 1) in omega arith) in
    let e = quad-one_place i m (pos 1) ∙ ring (x0 ⊗ (lit 1 ⊗ lit 1)) x0 (at (row_at m i) 0 ∷ []) refl in
    size_between (at (row_at m i) 0) (2 ^ 61)
    (low (at (row_at m i) 0) (subst (λ t. pos 0 ≤ℤ t) e q))
    (subst (λ t. t ≤ℤ pos (2 ^ 61)) (at-diagonal m i) (high i))
  where
    low : (z : ℤ) → pos 0 ≤ℤ z → neg_ℤ (pos (2 ^ 61)) ≤ℤ z
    low z h = omega (arith, ints)
entry_within n m i (suc k) lt below nonneg high =
    by_two (at (row_at m i) 0) (at (row_at m (i + suc k)) 0) (at (row_at m i) (suc k)) (quad m (two_places i k (pos 1))) (quad m (two_places i k (neg_ℤ (pos 1)))) (2 ^ 61)
    (nonneg (two_places i k (pos 1)) (let e = length-two_places i k (pos 1) in omega arith))
    (nonneg (two_places i k (neg_ℤ (pos 1))) (let e = length-two_places i k (neg_ℤ (pos 1)) in omega arith))
    (subst (λ t. t ≤ℤ pos (2 ^ 61)) (at-diagonal m i) (high i))
    (subst (λ t. t ≤ℤ pos (2 ^ 61)) (at-diagonal m (i + suc k)) (high (i + suc k)))
    (quad-two_places i k (i + suc k) m (pos 1) refl
    ∙ ring (x0 ⊕ lit 2 ⊗ (x1 ⊗ lit 1) ⊕ x2 ⊗ (lit 1 ⊗ lit 1)) (x0 ⊕ lit 2 ⊗ x1 ⊕ x2) (at (row_at m i) 0 ∷ at (row_at m i) (suc k) ∷ at (row_at m (i + suc k)) 0 ∷ []) refl)
    (quad-two_places i k (i + suc k) m (neg_ℤ (pos 1)) refl
    ∙ ring (x0 ⊕ lit 2 ⊗ (x1 ⊗ opposite_of (lit 1)) ⊕ x2 ⊗ (opposite_of (lit 1) ⊗ opposite_of (lit 1))) (x0 ⊖ lit 2 ⊗ x1 ⊕ x2) (at (row_at m i) 0 ∷ at (row_at m i) (suc k) ∷ at (row_at m (i + suc k)) 0 ∷ []) refl)

pub fits_by_places : (n : ℕ) (m : List (List ℤ)) → IsTriangle n m → ((i k : ℕ) → i < n → k < n - i → unsigned_abs (at (row_at m i) k) ≤ 2 ^ 61) → Fits m
fits_by_places n m t h =
    All-from_get_or RowFits m [] (λ i lt.
    let within : i < n = let e = length-IsTri n m t in omega arith in
    All-from_get_or (λ z. unsigned_abs z ≤ 2 ^ 61) (row_at m i) (pos 0) (λ k lk.
    h i k within (let e = length-tri_row n m i t within in omega arith)))

-- the matrix fits where its chain doesn't stop
pub chain_fits : (n : ℕ) (m : List (List ℤ)) → IsTriangle n m → stops (chain_steps lower_over n m) ≡ false
    → ((j : ℕ) → at (diagonal m) j ≤ℤ pos (2 ^ 61)) → Fits m
chain_fits n m t e high = fits_by_places n m t (λ i k lt below. entry_within n m i k lt below (λ x le. lower_nonneg n m x le e) high)
