-- A certificate that holds shows a form that is nowhere negative, and the lower chain's matrices are one.
use Rattle.std.proofs.Common.{◌≡◌, ℕ, zero, suc, inl, inr, Bool, true, ◌&&◌, List, [], ◌∷◌, refl, sym, ◌∙◌, ap, ap₂, subst, arith, ℤ, pos, negsuc, ◌+ℤ◌, ◌-ℤ◌, ◌*ℤ◌, ◌≤ℤ◌, ◌<ℤ◌}
use Rattle.std.specs.List.{list_all}
use Rattle.std.proofs.lemmas.Int.{ints}
use Rattle.whole_algebra.specs.Sums.{dot}
use Rattle.whole_algebra.specs.Rounding.{is_zero, size_of}
use Rattle.whole_algebra.specs.Matrices.{at, quad, entries, minus_matrix, schur, diagonal, off_sums}
use Rattle.whole_algebra.specs.Certificates.{IsDominant, StepHolds, CertificateHolds}
use Rattle.whole_algebra.proofs.Ring.{zero_mul}
use Rattle.whole_algebra.proofs.Order.{le_refl, add_nonneg, mul_nonneg, square_nonneg, mul_le_mul_right, nonneg_of_mul}
use Rattle.whole_algebra.proofs.FormLaws.{diag_quad, quad-minus_matrix, entries_same}
use Rattle.whole_algebra.proofs.Square.{completed_square, quad-schur}
use Rattle.whole_algebra.proofs.Slack.{Covers, form_covered}
use Rattle.whole_algebra.proofs.ChainLaws.{quad-free}
use Rattle.whole_algebra.proofs.Normal.{ring, x0, x1, x2, x3, ◌⊕◌, ◌⊖◌, ◌⊗◌}

-- ---- a dominant matrix
size_covers : Covers size_of (λ z. z)
size_covers (pos n) = (omega (arith, ints), omega (arith, ints))
size_covers (negsuc n) = (omega (arith, ints), omega (arith, ints))

-- a form of squares grows with its numbers
diag_quad-le : (d e x : List ℤ) → ((i : ℕ) → at d i ≤ℤ at e i) → diag_quad d x ≤ℤ diag_quad e x
diag_quad-le [] [] x h = le_refl (pos 0)
diag_quad-le [] (b ∷ e) [] h = le_refl (pos 0)
diag_quad-le [] (b ∷ e) (x ∷ y) h =
    let more = diag_quad-le [] e y (λ i. h (suc i)) in
    let one = mul_nonneg b (x *ℤ x) (h zero) (square_nonneg x) in
    add_nonneg (b *ℤ (x *ℤ x)) (diag_quad e y) one more
diag_quad-le (a ∷ d) [] [] h = le_refl (pos 0)
diag_quad-le (a ∷ d) [] (x ∷ y) h =
    let more = diag_quad-le d [] y (λ i. h (suc i)) in
    let one = mul_le_mul_right (x *ℤ x) a (pos 0) (square_nonneg x) (h zero) in
    let nothing = zero_mul (x *ℤ x) in
    summed (a *ℤ (x *ℤ x)) (diag_quad d y) (pos 0 *ℤ (x *ℤ x)) one nothing more
  where
    summed : (p q r : ℤ) → p ≤ℤ r → r ≡ pos 0 → q ≤ℤ pos 0 → (p +ℤ q) ≤ℤ pos 0
    summed p q r h e k = omega (arith, ints)
diag_quad-le (a ∷ d) (b ∷ e) [] h = le_refl (pos 0)
diag_quad-le (a ∷ d) (b ∷ e) (x ∷ y) h =
    let more = diag_quad-le d e y (λ i. h (suc i)) in
    let one = mul_le_mul_right (x *ℤ x) a b (square_nonneg x) (h zero) in
    summed (a *ℤ (x *ℤ x)) (diag_quad d y) (b *ℤ (x *ℤ x)) (diag_quad e y) one more
  where
    summed : (p q r s : ℤ) → p ≤ℤ r → q ≤ℤ s → (p +ℤ q) ≤ℤ (r +ℤ s)
    summed p q r s h k = omega (arith, ints)

pub dominant_nonneg : (m : List (List ℤ)) (x : List ℤ) → IsDominant m → pos 0 ≤ℤ quad m x
dominant_nonneg m x h =
    let cover = form_covered (λ z. z) size_of size_covers m x in
    let same = entries_same (λ z. z) (λ z. refl) m in
    let cover' : diag_quad (diagonal m) x ≤ℤ (quad m x +ℤ diag_quad (off_sums (entries size_of m)) x) =
    subst (λ n. diag_quad (diagonal n) x ≤ℤ (quad n x +ℤ diag_quad (off_sums (entries size_of m)) x)) same cover in
    let le = diag_quad-le (off_sums (entries size_of m)) (diagonal m) x h in
    by (diag_quad (diagonal m) x) (quad m x) (diag_quad (off_sums (entries size_of m)) x) cover' le
  where
    by : (d q s : ℤ) → d ≤ℤ (q +ℤ s) → s ≤ℤ d → pos 0 ≤ℤ q
    by d q s h k = omega (arith, ints)

-- ---- a certificate
split_nonneg : (q r : ℤ) → pos 0 ≤ℤ (q -ℤ r) → pos 0 ≤ℤ r → pos 0 ≤ℤ q
split_nonneg q r h k = omega (arith, ints)

free_nonneg : (m r : List (List ℤ)) (y : List ℤ) → IsDominant (minus_matrix m r) → pos 0 ≤ℤ quad r y → pos 0 ≤ℤ quad m y
free_nonneg m r y h k =
    split_nonneg (quad m y) (quad r y) (subst (λ t. pos 0 ≤ℤ t) (quad-minus_matrix m r y) (dominant_nonneg (minus_matrix m r) y h)) k

pivot_nonneg : (a : ℤ) (b : List ℤ) (m r : List (List ℤ)) (x : ℤ) (y : List ℤ) → pos 0 <ℤ a → IsDominant (schur a b (minus_matrix m r))
    → pos 0 ≤ℤ quad r y → pos 0 ≤ℤ quad ((a ∷ b) ∷ m) (x ∷ y)
pivot_nonneg a b m r x y above h k =
    let z = a *ℤ x +ℤ dot b y in
    let d = quad (schur a b (minus_matrix m r)) y in
    let rest : quad (schur a b m) y ≡ d +ℤ a *ℤ quad r y =
    quad-schur a b m y
    ∙ ring (x0 ⊗ x1 ⊖ x2 ⊗ x2) ((x0 ⊗ (x1 ⊖ x3) ⊖ x2 ⊗ x2) ⊕ x0 ⊗ x3) (a ∷ quad m y ∷ dot b y ∷ quad r y ∷ []) refl
    ∙ ap (λ t. t +ℤ a *ℤ quad r y) (ap (λ t. a *ℤ t -ℤ dot b y *ℤ dot b y) (sym (quad-minus_matrix m r y)) ∙ sym (quad-schur a b (minus_matrix m r) y)) in
    nonneg_of_mul a (quad ((a ∷ b) ∷ m) (x ∷ y)) above
    (by (a *ℤ quad ((a ∷ b) ∷ m) (x ∷ y)) (z *ℤ z) (quad (schur a b m) y) d (a *ℤ quad r y) (completed_square a b m x y) rest
    (square_nonneg z) (dominant_nonneg (schur a b (minus_matrix m r)) y h) (mul_nonneg a (quad r y) (omega (arith, ints)) k))
  where
    by : (t s q d l : ℤ) → t ≡ s +ℤ q → q ≡ d +ℤ l → pos 0 ≤ℤ s → pos 0 ≤ℤ d → pos 0 ≤ℤ l → pos 0 ≤ℤ t
    by t s q d l e f u v w = omega (arith, ints)

step_nonneg : (row : List ℤ) (m r : List (List ℤ)) (x : ℤ) (y : List ℤ) → StepHolds row m r → pos 0 ≤ℤ quad r y → pos 0 ≤ℤ quad (row ∷ m) (x ∷ y)
step_nonneg [] m r x y h k = let q = free_nonneg m r y h k in omega (arith, ints)
step_nonneg (a ∷ b) m r x y (inl h) k = pivot_nonneg a b m r x y h.0 h.1 k
step_nonneg (a ∷ b) m r x y (inr h) k =
    subst (λ q. pos 0 ≤ℤ q) (sym (quad-free a b m x y (zeros a (list_all is_zero b) h.0 h.1))) (free_nonneg m r y h.2 k)
  where
    zeros : (a : ℤ) (t : Bool) → a ≡ pos 0 → t ≡ true → is_zero a && t ≡ true
    zeros a t e f = ap₂ (λ s u. is_zero s && u) e f

pub certificate_nonneg : (rs : List (List (List ℤ))) (m : List (List ℤ)) (x : List ℤ) → CertificateHolds rs m → pos 0 ≤ℤ quad m x
certificate_nonneg [] [] x h = le_refl (pos 0)
certificate_nonneg [] (row ∷ rest) x h = absurd h
certificate_nonneg (r ∷ rs) [] x h = absurd h
certificate_nonneg (r ∷ rs) (row ∷ rest) [] h = le_refl (pos 0)
certificate_nonneg (r ∷ rs) (row ∷ rest) (x ∷ y) h = step_nonneg row rest r x y h.0 (certificate_nonneg rs r y h.1)
