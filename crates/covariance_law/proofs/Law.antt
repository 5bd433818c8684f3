-- The law between loads and covariances, with energies Q(x) = x' m x, variances P(u) = y' c y of a combination y = h' u,
-- and squares S(x) = sum (h_k . x)^2.
--
-- A load that is borne bounds the variances. Take a combination u, and x = c y. Then m x = d y, so
--     Q(x) = x . d y = d P(u),   and   sum u_k (h_k . x) = y . x = P(u).
-- By Cauchy and Schwarz for lists P(u)^2 <= (u . u) S(x), and beta S(x) <= alpha Q(x) = alpha d P(u). Hence
--     P(u) (beta P(u)) <= (u . u) (beta S(x)) <= P(u) (alpha d (u . u)),
-- and P(u), which isn't negative since d P(u) = Q(x), is taken off; where it is 0 there is nothing to show.
--
-- Bounded variances bear the load. Take x, and as u its own forms: u_k = h_k . x, so that u . u = S(x), and S(x) = y . x.
-- With z = c y again m z = d y, so x' m z = d S(x) and Q(z) = d P(u). By Cauchy and Schwarz for the form of m
--     (d S(x))^2 <= Q(x) Q(z) = Q(x) d P(u),   so   d S(x)^2 <= Q(x) P(u).
-- Times beta, and with beta P(u) <= alpha d S(x): d S(x) (beta S(x)) <= d S(x) (alpha Q(x)), and d S(x) is taken off;
-- where S(x) is 0 there is nothing to show.
use Rattle.std.proofs.Common.{◌≡◌, ℕ, [], ◌∷◌, refl, sym, ◌∙◌, ap, subst, arith, ℤ, pos, ◌+ℤ◌, ◌*ℤ◌, ◌≤ℤ◌, ◌<ℤ◌}
use Rattle.std.proofs.lemmas.Int.{ints, by_lt_z}
use Rattle.whole_algebra.proofs.Ring.{mul_zero}
use Rattle.whole_algebra.proofs.Order.{le_of_mul_le, le_trans, mul_le_mul, mul_nonneg, mul_pos, square_nonneg}
use Rattle.whole_algebra.proofs.Normal.{ring, x0, x1, x2, x3, ◌⊗◌}
use Rattle.covariance_law.specs.Vectors.{Vector, Matrix, inner, applied, form}
use Rattle.covariance_law.specs.Covariance.{IsNormalMatrix, IsInverse, squares, EnergyBearsLoad, VarianceIsWithin, EnergiesBoundCovariances}
use Rattle.covariance_law.proofs.Sums.{vector_sum-nonneg, inner_comm, inner-same, inner-scale}
use Rattle.covariance_law.proofs.Products.{combined, moved, undone, form-sum, inner-sum, propagated-form}
use Rattle.covariance_law.proofs.Cauchy.{cauchy}

-- ---- Cauchy and Schwarz for forms and for lists
pub form-cauchy : (n : ℕ) (m : Matrix) (x y : Vector) → IsNormalMatrix n m
    → (inner n x (applied n m y) *ℤ inner n x (applied n m y)) ≤ℤ (form n m x *ℤ form n m y)
form-cauchy n m x y normal =
    cauchy (form n m x) (inner n x (applied n m y)) (form n m y)
    (λ s t. subst (λ z. pos 0 ≤ℤ z) (form-sum n m x y s t normal.symmetric) (normal.nonnegative (λ i. s *ℤ x i +ℤ t *ℤ y i)))

pub inner-nonneg : (n : ℕ) (x : Vector) → pos 0 ≤ℤ inner n x x
inner-nonneg n x = vector_sum-nonneg n (λ i. x i *ℤ x i) (λ i. square_nonneg (x i))

pub inner-cauchy : (n : ℕ) (x y : Vector) → (inner n x y *ℤ inner n x y) ≤ℤ (inner n x x *ℤ inner n y y)
inner-cauchy n x y =
    cauchy (inner n x x) (inner n x y) (inner n y y)
    (λ s t. subst (λ z. pos 0 ≤ℤ z) (inner-sum n x y s t) (inner-nonneg n (λ i. s *ℤ x i +ℤ t *ℤ y i)))

-- ---- the numbers of both directions
borne_numbers : (alpha beta d v s u : ℤ) → pos 0 <ℤ alpha → pos 0 <ℤ beta → pos 0 <ℤ d → pos 0 ≤ℤ u
    → (v *ℤ v) ≤ℤ (u *ℤ s) → (beta *ℤ s) ≤ℤ (alpha *ℤ (d *ℤ v)) → (beta *ℤ v) ≤ℤ (alpha *ℤ d *ℤ u)
borne_numbers alpha beta d v s u a b pd pu cs borne =
    by_lt_z (pos 0) v
    (λ positive. le_of_mul_le v (beta *ℤ v) (alpha *ℤ d *ℤ u) positive
    (le_trans (v *ℤ (beta *ℤ v)) (u *ℤ (beta *ℤ s)) (v *ℤ (alpha *ℤ d *ℤ u))
    (subst (λ t. t ≤ℤ (u *ℤ (beta *ℤ s))) (ring (x0 ⊗ (x1 ⊗ x1)) (x1 ⊗ (x0 ⊗ x1)) (beta ∷ v ∷ []) refl)
    (subst (λ t. (beta *ℤ (v *ℤ v)) ≤ℤ t) (ring (x0 ⊗ (x1 ⊗ x2)) (x1 ⊗ (x0 ⊗ x2)) (beta ∷ u ∷ s ∷ []) refl)
    (mul_le_mul beta (v *ℤ v) (u *ℤ s) (omega (arith, ints)) cs)))
    (subst (λ t. (u *ℤ (beta *ℤ s)) ≤ℤ t) (ring (x3 ⊗ (x0 ⊗ (x1 ⊗ x2))) (x2 ⊗ (x0 ⊗ x1 ⊗ x3)) (alpha ∷ d ∷ v ∷ u ∷ []) refl)
    (mul_le_mul u (beta *ℤ s) (alpha *ℤ (d *ℤ v)) pu borne))))
    (λ none.
    let left = mul_le_mul beta v (pos 0) (omega (arith, ints)) none in
    let zero_left = mul_zero beta in
    let right = mul_nonneg (alpha *ℤ d) u (let p = mul_pos alpha d a pd in omega (arith, ints)) pu in
    omega (arith, ints))

bounded_numbers : (alpha beta d v s q : ℤ) → pos 0 <ℤ alpha → pos 0 <ℤ beta → pos 0 <ℤ d → pos 0 ≤ℤ s → pos 0 ≤ℤ q
    → (d *ℤ s *ℤ (d *ℤ s)) ≤ℤ (q *ℤ (d *ℤ v)) → (beta *ℤ v) ≤ℤ (alpha *ℤ d *ℤ s) → (beta *ℤ s) ≤ℤ (alpha *ℤ q)
bounded_numbers alpha beta d v s q a b pd ps pq cs bounded =
    by_lt_z (pos 0) s
    (λ positive.
    let ds = mul_pos d s pd positive in
    let short : (d *ℤ (s *ℤ s)) ≤ℤ (q *ℤ v) =
    le_of_mul_le d (d *ℤ (s *ℤ s)) (q *ℤ v) pd
    (subst (λ t. t ≤ℤ (d *ℤ (q *ℤ v))) (ring (x0 ⊗ x1 ⊗ (x0 ⊗ x1)) (x0 ⊗ (x0 ⊗ (x1 ⊗ x1))) (d ∷ s ∷ []) refl)
    (subst (λ t. (d *ℤ s *ℤ (d *ℤ s)) ≤ℤ t) (ring (x1 ⊗ (x0 ⊗ x2)) (x0 ⊗ (x1 ⊗ x2)) (d ∷ q ∷ v ∷ []) refl) cs)) in
    le_of_mul_le (d *ℤ s) (beta *ℤ s) (alpha *ℤ q) ds
    (le_trans (d *ℤ s *ℤ (beta *ℤ s)) (q *ℤ (beta *ℤ v)) (d *ℤ s *ℤ (alpha *ℤ q))
    (subst (λ t. t ≤ℤ (q *ℤ (beta *ℤ v))) (ring (x2 ⊗ (x0 ⊗ (x1 ⊗ x1))) (x0 ⊗ x1 ⊗ (x2 ⊗ x1)) (d ∷ s ∷ beta ∷ []) refl)
    (subst (λ t. (beta *ℤ (d *ℤ (s *ℤ s))) ≤ℤ t) (ring (x2 ⊗ (x0 ⊗ x1)) (x0 ⊗ (x2 ⊗ x1)) (q ∷ v ∷ beta ∷ []) refl)
    (mul_le_mul beta (d *ℤ (s *ℤ s)) (q *ℤ v) (omega (arith, ints)) short)))
    (subst (λ t. (q *ℤ (beta *ℤ v)) ≤ℤ t) (ring (x3 ⊗ (x0 ⊗ x1 ⊗ x2)) (x1 ⊗ x2 ⊗ (x0 ⊗ x3)) (alpha ∷ d ∷ s ∷ q ∷ []) refl)
    (mul_le_mul q (beta *ℤ v) (alpha *ℤ d *ℤ s) pq bounded))))
    (λ none.
    let gone : s ≡ pos 0 = omega (arith, ints) in
    let left : beta *ℤ s ≡ pos 0 = ap (λ t. beta *ℤ t) gone ∙ mul_zero beta in
    let right = mul_nonneg alpha q (omega (arith, ints)) pq in
    omega (arith, ints))

-- ---- both directions
-- the energy at c y
energy_of_combination : (n : ℕ) (m c : Matrix) (d : ℤ) (y : Vector) → IsInverse n m c d → form n m (applied n c y) ≡ d *ℤ inner n y (applied n c y)
energy_of_combination n m c d y inverse =
    inner-same n (applied n c y) (applied n m (applied n c y)) (λ i. d *ℤ y i) (undone n m c d y inverse)
    ∙ inner-scale n d (applied n c y) y
    ∙ ap (λ t. d *ℤ t) (inner_comm n (applied n c y) y)

bears_then_within : (n p : ℕ) (m c h : Matrix) (d alpha beta : ℤ) → IsInverse n m c d → pos 0 <ℤ alpha → pos 0 <ℤ beta
    → EnergyBearsLoad n p m h alpha beta → VarianceIsWithin n p c h d alpha beta
bears_then_within n p m c h d alpha beta inverse a b bears u =
    let y = combined p h u in
    let x = applied n c y in
    let v = inner n y x in
    let meets : inner p u (applied n h x) ≡ v = moved p n h u x in
    let cs = subst (λ t. (t *ℤ t) ≤ℤ (inner p u u *ℤ squares p n h x)) meets (inner-cauchy p u (applied n h x)) in
    let load = subst (λ t. (beta *ℤ squares p n h x) ≤ℤ (alpha *ℤ t)) (energy_of_combination n m c d y inverse) (bears x) in
    subst (λ t. (beta *ℤ t) ≤ℤ (alpha *ℤ d *ℤ inner p u u)) (sym (propagated-form p n h c u))
    (borne_numbers alpha beta d v (squares p n h x) (inner p u u) a b inverse.positive (inner-nonneg p u) cs load)

within_then_bears : (n p : ℕ) (m c h : Matrix) (d alpha beta : ℤ) → IsNormalMatrix n m → IsInverse n m c d → pos 0 <ℤ alpha → pos 0 <ℤ beta
    → VarianceIsWithin n p c h d alpha beta → EnergyBearsLoad n p m h alpha beta
within_then_bears n p m c h d alpha beta normal inverse a b within x =
    let u = applied n h x in
    let y = combined p h u in
    let z = applied n c y in
    let v = inner n y z in
    let s = squares p n h x in
    let meets : inner n x y ≡ s = inner_comm n x y ∙ sym (moved p n h u x) in
    let mixed : inner n x (applied n m z) ≡ d *ℤ s =
    inner-same n x (applied n m z) (λ i. d *ℤ y i) (undone n m c d y inverse) ∙ inner-scale n d x y ∙ ap (λ t. d *ℤ t) meets in
    let cs =
    subst (λ t. (t *ℤ t) ≤ℤ (form n m x *ℤ (d *ℤ v))) mixed
    (subst (λ t. (inner n x (applied n m z) *ℤ inner n x (applied n m z)) ≤ℤ (form n m x *ℤ t)) (energy_of_combination n m c d y inverse) (form-cauchy n m x z normal)) in
    let bounded = subst (λ t. (beta *ℤ t) ≤ℤ (alpha *ℤ d *ℤ s)) (propagated-form p n h c u) (within u) in
    bounded_numbers alpha beta d v s (form n m x) a b inverse.positive (inner-nonneg p u) (normal.nonnegative x) cs bounded

pub energies_and_covariances : EnergiesBoundCovariances
energies_and_covariances n p m c h d alpha beta normal inverse a b =
    (bears_then_within n p m c h d alpha beta inverse a b, within_then_bears n p m c h d alpha beta normal inverse a b)
