-- Matrices made of numbered unknowns are sums of squares, and what a verdict on a grid says of the matrix itself.
use Rattle.std.proofs.Common.{◌≡◌, ℕ, zero, suc, ◌*◌, ◌≤◌, List, [], ◌∷◌, map, length, replicate, refl, sym, ◌∙◌, ap, ap₂, arith, ℤ, pos, ◌+ℤ◌, ◌*ℤ◌, neg_ℤ, ◌≤ℤ◌, ◌<ℤ◌}
use Rattle.std.proofs.lemmas.Int.{ints}
use Rattle.std.proofs.lemmas.List.{length-map}
use Rattle.whole_algebra.specs.Sums.{int_sum_by, dot}
use Rattle.whole_algebra.specs.Matrices.{at, scale, row_quad, quad, lower_over, upper_over, diagonal, IsTriangle, padded}
use Rattle.whole_algebra.specs.Chains.{size_limit, met, refuted, chains_outcome}
use Rattle.whole_algebra.specs.Grid.{times_lists, scaled, packed}
use Rattle.whole_algebra.proofs.Ring.{mul_zero}
use Rattle.whole_algebra.proofs.Order.{mul_nonneg, mul_pos, nonneg_of_mul}
use Rattle.whole_algebra.proofs.SumLaws.{dot-nil}
use Rattle.whole_algebra.proofs.FormLaws.{quad-nil}
use Rattle.whole_algebra.proofs.Slack.{lower_is_below, upper_is_above}
use Rattle.whole_algebra.proofs.Shapes.{quad-padded, length-padded, triangle-lower_over, triangle-upper_over}
use Rattle.whole_algebra.proofs.Refutation.{quad-scale}
use Rattle.whole_algebra.proofs.VerdictLaws.{verdict-met, verdict-refuted}
use Rattle.whole_algebra.proofs.Normal.{ring, x0, x1, x2, x3, x4, x5, x6, x7, lit, opposite_of, ◌⊕◌, ◌⊗◌}

-- ---- packed matrices
pub triangle-packed : (f : ℕ → ℕ → ℤ) (us : List ℕ) → IsTriangle (length us) (packed f us)
triangle-packed f [] = tt
triangle-packed f (u ∷ us) = (ap suc (length-map (f u) us), triangle-packed f us)
  where
    length-map : (g : ℕ → ℤ) (vs : List ℕ) → length (map g vs) ≡ length vs
    length-map g [] = refl
    length-map g (v ∷ vs) = ap suc (length-map g vs)

map-same : (f g : ℕ → ℤ) (us : List ℕ) → ((u : ℕ) → f u ≡ g u) → map f us ≡ map g us
map-same f g [] e = refl
map-same f g (u ∷ us) e = ap₂ ◌∷◌ (e u) (map-same f g us e)

pub packed-same : (f g : ℕ → ℕ → ℤ) (us : List ℕ) → ((i j : ℕ) → f i j ≡ g i j) → packed f us ≡ packed g us
packed-same f g [] e = refl
packed-same f g (u ∷ us) e = ap₂ ◌∷◌ (map-same (f u) (g u) (u ∷ us) (e u)) (packed-same f g us e)

dot-map_sum_of : (a : ℤ) (f g : ℕ → ℤ) (us : List ℕ) (y : List ℤ) → dot (map (λ u. f u +ℤ a *ℤ g u) us) y ≡ dot (map f us) y +ℤ a *ℤ dot (map g us) y
dot-map_sum_of a f g [] y = ring (lit 0) (lit 0 ⊕ x0 ⊗ lit 0) (a ∷ []) refl
dot-map_sum_of a f g (u ∷ us) [] = ring (lit 0) (lit 0 ⊕ x0 ⊗ lit 0) (a ∷ []) refl
dot-map_sum_of a f g (u ∷ us) (y ∷ ys) =
    ap (λ t. (f u +ℤ a *ℤ g u) *ℤ y +ℤ t) (dot-map_sum_of a f g us ys)
    ∙ ring ((x1 ⊕ x0 ⊗ x2) ⊗ x3 ⊕ (x4 ⊕ x0 ⊗ x5)) ((x1 ⊗ x3 ⊕ x4) ⊕ x0 ⊗ (x2 ⊗ x3 ⊕ x5)) (a ∷ f u ∷ g u ∷ y ∷ dot (map f us) ys ∷ dot (map g us) ys ∷ []) refl

-- the form of a sum of matrices, one of them multiplied
pub quad-packed_sum : (a : ℤ) (f g : ℕ → ℕ → ℤ) (us : List ℕ) (x : List ℤ)
    → quad (packed (λ i j. f i j +ℤ a *ℤ g i j) us) x ≡ quad (packed f us) x +ℤ a *ℤ quad (packed g us) x
quad-packed_sum a f g [] x = ring (lit 0) (lit 0 ⊕ x0 ⊗ lit 0) (a ∷ []) refl
quad-packed_sum a f g (u ∷ us) [] = ring (lit 0) (lit 0 ⊕ x0 ⊗ lit 0) (a ∷ []) refl
quad-packed_sum a f g (u ∷ us) (x ∷ y) =
    ap₂ (λ s t. (f u u +ℤ a *ℤ g u u) *ℤ (x *ℤ x) +ℤ pos 2 *ℤ (x *ℤ s) +ℤ t) (dot-map_sum_of a (f u) (g u) us y) (quad-packed_sum a f g us y)
    ∙ ring ((x1 ⊕ x0 ⊗ x2) ⊗ (x3 ⊗ x3) ⊕ lit 2 ⊗ (x3 ⊗ (x4 ⊕ x0 ⊗ x5)) ⊕ (x6 ⊕ x0 ⊗ x7))
    ((x1 ⊗ (x3 ⊗ x3) ⊕ lit 2 ⊗ (x3 ⊗ x4) ⊕ x6) ⊕ x0 ⊗ (x2 ⊗ (x3 ⊗ x3) ⊕ lit 2 ⊗ (x3 ⊗ x5) ⊕ x7))
    (a ∷ f u u ∷ g u u ∷ x ∷ dot (map (f u) us) y ∷ dot (map (g u) us) y ∷ quad (packed f us) y ∷ quad (packed g us) y ∷ []) refl

dot-map_scaled : (a : ℤ) (f : ℕ → ℤ) (us : List ℕ) (y : List ℤ) → dot (map (λ u. a *ℤ f u) us) y ≡ a *ℤ dot (map f us) y
dot-map_scaled a f [] y = sym (mul_zero a)
dot-map_scaled a f (u ∷ us) [] = sym (mul_zero a)
dot-map_scaled a f (u ∷ us) (y ∷ ys) =
    ap (λ t. (a *ℤ f u) *ℤ y +ℤ t) (dot-map_scaled a f us ys)
    ∙ ring ((x0 ⊗ x1) ⊗ x2 ⊕ x0 ⊗ x3) (x0 ⊗ (x1 ⊗ x2 ⊕ x3)) (a ∷ f u ∷ y ∷ dot (map f us) ys ∷ []) refl

-- the form of the products of a row's numbers is a square
pub quad-packed_square : (f : ℕ → ℤ) (us : List ℕ) (x : List ℤ) → quad (packed (λ i j. f i *ℤ f j) us) x ≡ dot (map f us) x *ℤ dot (map f us) x
quad-packed_square f [] x = refl
quad-packed_square f (u ∷ us) [] = refl
quad-packed_square f (u ∷ us) (x ∷ y) =
    ap₂ (λ s t. (f u *ℤ f u) *ℤ (x *ℤ x) +ℤ pos 2 *ℤ (x *ℤ s) +ℤ t) (dot-map_scaled (f u) f us y) (quad-packed_square f us y)
    ∙ ring ((x0 ⊗ x0) ⊗ (x1 ⊗ x1) ⊕ lit 2 ⊗ (x1 ⊗ (x0 ⊗ x2)) ⊕ x2 ⊗ x2) ((x0 ⊗ x1 ⊕ x2) ⊗ (x0 ⊗ x1 ⊕ x2)) (f u ∷ x ∷ dot (map f us) y ∷ []) refl

-- a linear form of zeros
pub dot-zeros : (us : List ℕ) (x : List ℤ) → dot (map (λ u. pos 0) us) x ≡ pos 0
dot-zeros [] x = refl
dot-zeros (u ∷ us) [] = refl
dot-zeros (u ∷ us) (x ∷ y) = ap (λ t. pos 0 *ℤ x +ℤ t) (dot-zeros us y) ∙ ring (lit 0 ⊗ x0 ⊕ lit 0) (lit 0) (x ∷ []) refl

pub quad-packed_zero : (us : List ℕ) (x : List ℤ) → quad (packed (λ i j. pos 0) us) x ≡ pos 0
quad-packed_zero [] x = refl
quad-packed_zero (u ∷ us) [] = refl
quad-packed_zero (u ∷ us) (x ∷ y) =
    ap₂ (λ s t. pos 0 *ℤ (x *ℤ x) +ℤ pos 2 *ℤ (x *ℤ s) +ℤ t) (dot-zeros us y) (quad-packed_zero us y)
    ∙ ring (lit 0 ⊗ (x0 ⊗ x0) ⊕ lit 2 ⊗ (x0 ⊗ lit 0) ⊕ lit 0) (lit 0) (x ∷ []) refl

-- the sum over weighted rows of their products is the sum of weighted squares
pub quad-packed_rows : {X : Type 0} (w : X → ℤ) (f : X → ℕ → ℤ) (rows : List X) (us : List ℕ) (x : List ℤ)
    → quad (packed (λ i j. int_sum_by (λ r. w r *ℤ (f r i *ℤ f r j)) rows) us) x
    ≡ int_sum_by (λ r. w r *ℤ (dot (map (f r) us) x *ℤ dot (map (f r) us) x)) rows
quad-packed_rows w f [] us x = quad-packed_zero us x
quad-packed_rows w f (r ∷ rows) us x =
    ap (λ m. quad m x)
    (packed-same (λ i j. w r *ℤ (f r i *ℤ f r j) +ℤ int_sum_by (λ s. w s *ℤ (f s i *ℤ f s j)) rows)
    (λ i j. int_sum_by (λ s. w s *ℤ (f s i *ℤ f s j)) rows +ℤ w r *ℤ (f r i *ℤ f r j)) us
    (λ i j. ring (x0 ⊕ x1) (x1 ⊕ x0) ((w r *ℤ (f r i *ℤ f r j)) ∷ int_sum_by (λ s. w s *ℤ (f s i *ℤ f s j)) rows ∷ []) refl))
    ∙ quad-packed_sum (w r) (λ i j. int_sum_by (λ s. w s *ℤ (f s i *ℤ f s j)) rows) (λ i j. f r i *ℤ f r j) us x
    ∙ ap₂ (λ s t. s +ℤ w r *ℤ t) (quad-packed_rows w f rows us x) (quad-packed_square (f r) us x)
    ∙ ring (x0 ⊕ x1) (x1 ⊕ x0)
    (int_sum_by (λ s. w s *ℤ (dot (map (f s) us) x *ℤ dot (map (f s) us) x)) rows ∷ (w r *ℤ (dot (map (f r) us) x *ℤ dot (map (f r) us) x)) ∷ []) refl

-- ---- scaled matrices
dot-times_lists : (ws b y : List ℤ) → dot (times_lists ws b) y ≡ dot b (times_lists ws y)
dot-times_lists [] b y = sym (dot-nil b)
dot-times_lists (w ∷ ws) [] y = refl
dot-times_lists (w ∷ ws) (c ∷ b) [] = refl
dot-times_lists (w ∷ ws) (c ∷ b) (y ∷ ys) =
    ap (λ t. (w *ℤ c) *ℤ y +ℤ t) (dot-times_lists ws b ys)
    ∙ ring ((x0 ⊗ x1) ⊗ x2 ⊕ x3) (x1 ⊗ (x0 ⊗ x2) ⊕ x3) (w ∷ c ∷ y ∷ dot b (times_lists ws ys) ∷ []) refl

dot-scale_left' : (a : ℤ) (b y : List ℤ) → dot (scale a b) y ≡ a *ℤ dot b y
dot-scale_left' a [] y = sym (mul_zero a)
dot-scale_left' a (c ∷ b) [] = sym (mul_zero a)
dot-scale_left' a (c ∷ b) (y ∷ ys) =
    ap (λ t. (a *ℤ c) *ℤ y +ℤ t) (dot-scale_left' a b ys) ∙ ring ((x0 ⊗ x1) ⊗ x2 ⊕ x0 ⊗ x3) (x0 ⊗ (x1 ⊗ x2 ⊕ x3)) (a ∷ c ∷ y ∷ dot b ys ∷ []) refl

row_quad-scaled : (w : ℤ) (ws row : List ℤ) (x : ℤ) (y : List ℤ) → row_quad (scale w (times_lists (w ∷ ws) row)) x y ≡ row_quad row (w *ℤ x) (times_lists ws y)
row_quad-scaled w ws [] x y = refl
row_quad-scaled w ws (a ∷ b) x y =
    ap (λ t. (w *ℤ (w *ℤ a)) *ℤ (x *ℤ x) +ℤ pos 2 *ℤ (x *ℤ t)) (dot-scale_left' w (times_lists ws b) y ∙ ap (λ t. w *ℤ t) (dot-times_lists ws b y))
    ∙ ring ((x0 ⊗ (x0 ⊗ x1)) ⊗ (x2 ⊗ x2) ⊕ lit 2 ⊗ (x2 ⊗ (x0 ⊗ x3))) (x1 ⊗ ((x0 ⊗ x2) ⊗ (x0 ⊗ x2)) ⊕ lit 2 ⊗ ((x0 ⊗ x2) ⊗ x3)) (w ∷ a ∷ x ∷ dot b (times_lists ws y) ∷ []) refl

pub quad-scaled : (ws : List ℤ) (m : List (List ℤ)) (x : List ℤ) → quad (scaled ws m) x ≡ quad m (times_lists ws x)
quad-scaled [] m x = sym (quad-nil m)
quad-scaled (w ∷ ws) [] x = refl
quad-scaled (w ∷ ws) (row ∷ rest) [] = refl
quad-scaled (w ∷ ws) (row ∷ rest) (x ∷ y) = ap₂ (λ s t. s +ℤ t) (row_quad-scaled w ws row x y) (quad-scaled ws rest y)

length-times_lists : (ws xs : List ℤ) (n : ℕ) → length ws ≡ n → length xs ≡ n → length (times_lists ws xs) ≡ n
length-times_lists [] xs n e f = e
length-times_lists (w ∷ ws) [] n e f = f
length-times_lists (w ∷ ws) (x ∷ xs) zero e f = absurd (omega arith)
length-times_lists (w ∷ ws) (x ∷ xs) (suc n) e f = ap suc (length-times_lists ws xs n (omega arith) (omega arith))

pub triangle-scaled : (n : ℕ) (ws : List ℤ) (m : List (List ℤ)) → length ws ≡ n → IsTriangle n m → IsTriangle n (scaled ws m)
triangle-scaled zero [] m e t = tt
triangle-scaled (suc n) [] m e t = absurd (omega arith)
triangle-scaled zero (w ∷ ws) m e t = absurd (omega arith)
triangle-scaled (suc n) (w ∷ ws) [] e t = absurd t
triangle-scaled (suc n) (w ∷ ws) (row ∷ rest) e t =
    (length-map (times_lists (w ∷ ws) row) (λ z. w *ℤ z) ∙ length-times_lists (w ∷ ws) row (suc n) e t.0, triangle-scaled n ws rest (omega arith) t.1)

-- ---- the grid
-- numbers whose products with those of the scale are all p
times_back : (ws vs x : List ℤ) (n : ℕ) (p : ℤ) → times_lists ws vs ≡ replicate n p → length x ≡ n → length ws ≡ n → length vs ≡ n
    → times_lists ws (times_lists vs x) ≡ scale p x
times_back [] vs [] n p e l k j = refl
times_back [] vs (x ∷ xs) n p e l k j = absurd (omega arith)
times_back (w ∷ ws) vs [] n p e l k j = absurd (omega arith)
times_back (w ∷ ws) [] (x ∷ xs) n p e l k j = absurd (omega arith)
times_back (w ∷ ws) (v ∷ vs) (x ∷ xs) zero p e l k j = absurd (omega arith)
times_back (w ∷ ws) (v ∷ vs) (x ∷ xs) (suc n) p e l k j =
    ap₂ ◌∷◌ (ring (x0 ⊗ (x1 ⊗ x2)) ((x0 ⊗ x1) ⊗ x2) (w ∷ v ∷ x ∷ []) refl ∙ ap (λ t. t *ℤ x) (ap (λ q. at q 0) e))
    (times_back ws vs xs n p (ap tail_of e) (omega arith) (omega arith) (omega arith))
  where
    tail_of : List ℤ → List ℤ
    tail_of [] = []
    tail_of (y ∷ ys) = ys

-- the form of the matrix is nowhere negative where that of its lower grid matrix isn't
pub lower_grid_nonneg : (n : ℕ) (m : List (List ℤ)) (ws vs : List ℤ) (d p : ℤ) → IsTriangle n m → length ws ≡ n → length vs ≡ n
    → pos 0 <ℤ d → pos 0 <ℤ p → times_lists ws vs ≡ replicate n p
    → ((z : List ℤ) → pos 0 ≤ℤ quad (lower_over d (scaled ws m)) z) → (x : List ℤ) → pos 0 ≤ℤ quad m x
lower_grid_nonneg n m ws vs d p t k j d_above p_above e h x =
    let y = padded n x in
    let z = times_lists vs y in
    let below = lower_is_below d (scaled ws m) z d_above in
    let low = mul_nonneg d (quad (lower_over d (scaled ws m)) z) (weaker d d_above) (h z) in
    let back : quad (scaled ws m) z ≡ (p *ℤ p) *ℤ quad m x =
    quad-scaled ws m z
    ∙ ap (λ u. quad m u) (times_back ws vs y n p e (length-padded n x) k j)
    ∙ quad-scale p m y
    ∙ ap (λ u. (p *ℤ p) *ℤ u) (quad-padded n m x t) in
    nonneg_of_mul (p *ℤ p) (quad m x) (mul_pos p p p_above p_above)
    (by (d *ℤ quad (lower_over d (scaled ws m)) z) (quad (scaled ws m) z) ((p *ℤ p) *ℤ quad m x) low below back)
  where
    weaker : (a : ℤ) → pos 0 <ℤ a → pos 0 ≤ℤ a
    weaker a h = omega (arith, ints)

    by : (l q r : ℤ) → pos 0 ≤ℤ l → l ≤ℤ q → q ≡ r → pos 0 ≤ℤ r
    by l q r h k e = omega (arith, ints)

-- and somewhere negative where that of its upper grid matrix is
pub upper_grid_negative : (n : ℕ) (m : List (List ℤ)) (ws : List ℤ) (d : ℤ) → length ws ≡ n → pos 0 <ℤ d
    → (z : List ℤ) → length z ≡ n → quad (upper_over d (scaled ws m)) z <ℤ pos 0 → (x : List ℤ) × (length x ≡ n) × (quad m x <ℤ pos 0)
upper_grid_negative n m ws d k d_above z l h =
    let above = upper_is_above d (scaled ws m) z d_above in
    let same = quad-scaled ws m z in (
      times_lists ws z,
      length-times_lists ws z n k l,
      by d (quad (upper_over d (scaled ws m)) z) (quad (scaled ws m) z) (quad m (times_lists ws z)) d_above h above same,
    )
  where
    by : (d u q r : ℤ) → pos 0 <ℤ d → u <ℤ pos 0 → q ≤ℤ (d *ℤ u) → q ≡ r → r <ℤ pos 0
    by d u q r a b c e =
        let g = mul_pos d (neg_ℤ u) a (omega (arith, ints)) in
        let f : d *ℤ neg_ℤ u ≡ neg_ℤ (d *ℤ u) = ring (x0 ⊗ opposite_of x1) (opposite_of (x0 ⊗ x1)) (d ∷ u ∷ []) refl in
        omega (arith, ints)

pub grid-met : (n : ℕ) (m : List (List ℤ)) (ws vs : List ℤ) (d p : ℤ) → IsTriangle n m → length ws ≡ n → length vs ≡ n
    → pos 0 <ℤ d → pos 0 <ℤ p → times_lists ws vs ≡ replicate n p
    → chains_outcome (lower_over d (scaled ws m)) (upper_over d (scaled ws m)) ≡ met → (x : List ℤ) → pos 0 ≤ℤ quad m x
grid-met n m ws vs d p t k j d_above p_above e v x =
    lower_grid_nonneg n m ws vs d p t k j d_above p_above e
    (λ z. verdict-met n (lower_over d (scaled ws m)) (upper_over d (scaled ws m)) z (triangle-lower_over d n (scaled ws m) (triangle-scaled n ws m k t)) v) x

pub grid-refuted : (n : ℕ) (m : List (List ℤ)) (ws : List ℤ) (d h : ℤ) → IsTriangle n m → length ws ≡ n → pos 0 <ℤ d → n ≤ 64
    → ((i : ℕ) → at (diagonal (upper_over d (scaled ws m))) i ≤ℤ h) → (h +ℤ pos (64 * n)) ≤ℤ size_limit
    → chains_outcome (lower_over d (scaled ws m)) (upper_over d (scaled ws m)) ≡ refuted → (x : List ℤ) × (length x ≡ n) × (quad m x <ℤ pos 0)
grid-refuted n m ws d h t k d_above le high room v =
    let z = verdict-refuted n (lower_over d (scaled ws m)) (upper_over d (scaled ws m)) h (triangle-upper_over d n (scaled ws m) (triangle-scaled n ws m k t)) le high room v in
    upper_grid_negative n m ws d k d_above z.0 z.1 z.2

-- for an answer that wants one of them
pub ruleset grid_laws = (grid-met, grid-refuted)

pub ruleset quad_packed_laws = (quad-packed_sum, quad-packed_square)
