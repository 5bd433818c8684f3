-- The matrices that a lower chain leaves are a certificate that holds.
use Rattle.std.proofs.Common.{◌≡◌, ℕ, zero, suc, inl, inr, false, List, [], ◌∷◌, map, length, refl, sym, ◌∙◌, ap, ap₂, subst, arith, ℤ, pos, negsuc, ◌+ℤ◌, ◌-ℤ◌, ◌*ℤ◌, neg_ℤ, ◌≤ℤ◌, ◌<ℤ◌}
use Rattle.std.specs.List.{list_all}
use Rattle.std.proofs.lemmas.Int.{ints}
use Rattle.whole_algebra.specs.Sums.{int_sum}
use Rattle.whole_algebra.specs.Rounding.{is_zero, size_of, floor_over, gap_over}
use Rattle.whole_algebra.specs.Matrices.{at, plus_lists, scale, entries, plus_matrix, minus_matrix, schur, diagonal, off_sums, plus_diagonal, slacks, lower_over, IsTriangle}
use Rattle.whole_algebra.specs.Chains.{Step, free, pivot, stop, step_of, left_after, next, chain_rows, chain_steps, lower_chain, stops}
use Rattle.whole_algebra.specs.Certificates.{IsDominant, StepHolds, CertificateHolds, lower_remainders}
use Rattle.whole_algebra.proofs.Ring.{add_comm, add_assoc, mul_add, mul_zero, zero_mul}
use Rattle.whole_algebra.proofs.Order.{le_refl}
use Rattle.whole_algebra.proofs.Rounding.{gap_covers, floor_of_zero}
use Rattle.whole_algebra.proofs.Slack.{left_over, left_over_nonneg}
use Rattle.whole_algebra.proofs.Shapes.{at-map, at-plus_lists, at-diagonal-entries, at-diagonal-plus_diagonal, triangle-schur, triangle-lower_over, length-triangle}
use Rattle.whole_algebra.proofs.Refutation.{false_is_not_true}
use Rattle.whole_algebra.proofs.ChainLaws.{step_cases, and_left, and_right, is_zero-true, positive}
use Rattle.whole_algebra.proofs.Normal.{ring, x0, x1, x2, lit, opposite_of, ◌⊕◌, ◌⊖◌, ◌⊗◌}

-- ---- lists added place by place, in any order
pub plus_lists_comm : (xs ys : List ℤ) → plus_lists xs ys ≡ plus_lists ys xs
plus_lists_comm [] [] = refl
plus_lists_comm [] (y ∷ ys) = refl
plus_lists_comm (x ∷ xs) [] = refl
plus_lists_comm (x ∷ xs) (y ∷ ys) = ap₂ ◌∷◌ (add_comm x y) (plus_lists_comm xs ys)

pub plus_lists_assoc : (xs ys zs : List ℤ) → plus_lists (plus_lists xs ys) zs ≡ plus_lists xs (plus_lists ys zs)
plus_lists_assoc [] ys zs = refl
plus_lists_assoc (x ∷ xs) [] zs = refl
plus_lists_assoc (x ∷ xs) (y ∷ ys) [] = refl
plus_lists_assoc (x ∷ xs) (y ∷ ys) (z ∷ zs) = ap₂ ◌∷◌ (add_assoc x y z) (plus_lists_assoc xs ys zs)

scale-plus_lists : (a : ℤ) (xs ys : List ℤ) → scale a (plus_lists xs ys) ≡ plus_lists (scale a xs) (scale a ys)
scale-plus_lists a [] ys = refl
scale-plus_lists a (x ∷ xs) [] = refl
scale-plus_lists a (x ∷ xs) (y ∷ ys) = ap₂ ◌∷◌ (mul_add a x y) (scale-plus_lists a xs ys)

multiples : ℤ → List (List ℤ) → List (List ℤ)
multiples a m = entries (λ z. a *ℤ z) m

multiples-plus_matrix : (a : ℤ) (m n : List (List ℤ)) → multiples a (plus_matrix m n) ≡ plus_matrix (multiples a m) (multiples a n)
unfolding multiples
multiples-plus_matrix a [] n = refl
multiples-plus_matrix a (r ∷ m) [] = refl
multiples-plus_matrix a (r ∷ m) (s ∷ n) = ap₂ ◌∷◌ (scale-plus_lists a r s) (multiples-plus_matrix a m n)

-- a summand of the matrix comes through a pivot's step as its multiple
schur-plus_matrix : (a : ℤ) (b : List ℤ) (m n : List (List ℤ)) → schur a b (plus_matrix m n) ≡ plus_matrix (schur a b m) (multiples a n)
unfolding multiples
schur-plus_matrix a [] m n = multiples-plus_matrix a m n
schur-plus_matrix a (c ∷ b) [] [] = refl
schur-plus_matrix a (c ∷ b) [] (s ∷ n) = ap₂ ◌∷◌ (plus_lists_comm (scale a s) (scale (neg_ℤ c) (c ∷ b))) (schur-plus_matrix a b [] n)
schur-plus_matrix a (c ∷ b) (r ∷ m) [] = refl
schur-plus_matrix a (c ∷ b) (r ∷ m) (s ∷ n) =
    let v = scale (neg_ℤ c) (c ∷ b) in
    ap₂ ◌∷◌
    (ap (λ t. plus_lists t v) (scale-plus_lists a r s)
    ∙ plus_lists_assoc (scale a r) (scale a s) v
    ∙ ap (λ t. plus_lists (scale a r) t) (plus_lists_comm (scale a s) v)
    ∙ sym (plus_lists_assoc (scale a r) v (scale a s)))
    (schur-plus_matrix a b m n)

-- ---- what is left of a matrix when its divided matrix, multiplied again, is taken off
-- h is the number and k of its floor; k is additive
plus_lists-map : (h k fl : ℤ → ℤ) → ((z : ℤ) → h z ≡ z +ℤ k (fl z)) → (xs : List ℤ) → plus_lists xs (map k (map fl xs)) ≡ map h xs
plus_lists-map h k fl e [] = refl
plus_lists-map h k fl e (x ∷ xs) = ap₂ ◌∷◌ (sym (e x)) (plus_lists-map h k fl e xs)

plus_matrix-entries : (h k fl : ℤ → ℤ) → ((z : ℤ) → h z ≡ z +ℤ k (fl z)) → (m : List (List ℤ)) → plus_matrix m (entries k (entries fl m)) ≡ entries h m
plus_matrix-entries h k fl e [] = refl
plus_matrix-entries h k fl e (r ∷ m) = ap₂ ◌∷◌ (plus_lists-map h k fl e r) (plus_matrix-entries h k fl e m)

plus_matrix-diagonal : (h k fl : ℤ → ℤ) → ((z : ℤ) → h z ≡ z +ℤ k (fl z)) → ((x y : ℤ) → k (x +ℤ y) ≡ k x +ℤ k y) → (m : List (List ℤ)) (d : List ℤ)
    → plus_matrix m (entries k (plus_diagonal (entries fl m) d)) ≡ plus_diagonal (entries h m) (map k d)
plus_matrix-diagonal h k fl e g m [] = plus_matrix-entries h k fl e m
plus_matrix-diagonal h k fl e g [] (c ∷ d) = ap (λ t. (k c ∷ []) ∷ t) (plus_matrix-diagonal h k fl e g [] d)
plus_matrix-diagonal h k fl e g ([] ∷ m) (c ∷ d) = ap (λ t. (k c ∷ []) ∷ t) (plus_matrix-diagonal h k fl e g m d)
plus_matrix-diagonal h k fl e g ((p ∷ b) ∷ m) (c ∷ d) =
    ap₂ (λ s t. s ∷ t)
    (ap₂ (λ s t. s ∷ t) (ap (λ t. p +ℤ t) (g (fl p) c) ∙ sym (add_assoc p (k (fl p)) (k c)) ∙ ap (λ t. t +ℤ k c) (sym (e p))) (plus_lists-map h k fl e b))
    (plus_matrix-diagonal h k fl e g m d)

map-map_lem : (f g : ℤ → ℤ) (xs : List ℤ) → map f (map g xs) ≡ map (λ z. f (g z)) xs
map-map_lem f g [] = refl
map-map_lem f g (x ∷ xs) = ap (λ t. f (g x) ∷ t) (map-map_lem f g xs)

entries-entries : (f g : ℤ → ℤ) (m : List (List ℤ)) → entries f (entries g m) ≡ entries (λ z. f (g z)) m
entries-entries f g [] = refl
entries-entries f g (r ∷ m) = ap₂ ◌∷◌ (map-map_lem f g r) (entries-entries f g m)

-- ---- sums off the diagonal
-- the diagonal doesn't count in them
off_sums-plus_diagonal : (f : ℤ → ℤ) (m : List (List ℤ)) (d : List ℤ) (i : ℕ) → at (off_sums (entries f (plus_diagonal m d))) i ≡ at (off_sums (entries f m)) i
off_sums-plus_diagonal f m [] i = refl
off_sums-plus_diagonal f [] (e ∷ d) zero = refl
off_sums-plus_diagonal f [] (e ∷ d) (suc i) = off_sums-plus_diagonal f [] d i
off_sums-plus_diagonal f ([] ∷ m) (e ∷ d) zero = refl
off_sums-plus_diagonal f ([] ∷ m) (e ∷ d) (suc i) = off_sums-plus_diagonal f m d i
off_sums-plus_diagonal f ((a ∷ b) ∷ m) (e ∷ d) zero = refl
off_sums-plus_diagonal f ((a ∷ b) ∷ m) (e ∷ d) (suc i) =
    at-plus_lists (map f b) (off_sums (entries f (plus_diagonal m d))) i
    ∙ ap (λ t. at (map f b) i +ℤ t) (off_sums-plus_diagonal f m d i)
    ∙ sym (at-plus_lists (map f b) (off_sums (entries f m)) i)

AtMostTimes : ℤ → (ℤ → ℤ) → (ℤ → ℤ) → Type 0
AtMostTimes a f g = (z : ℤ) → f z ≤ℤ (a *ℤ g z)

int_sum-map_le : (a : ℤ) (f g : ℤ → ℤ) → AtMostTimes a f g → (b : List ℤ) → int_sum (map f b) ≤ℤ (a *ℤ int_sum (map g b))
unfolding AtMostTimes
int_sum-map_le a f g h [] = let e = mul_zero a in omega (arith, ints)
int_sum-map_le a f g h (c ∷ b) =
    let one = h c in
    let more = int_sum-map_le a f g h b in
    let e = mul_add a (g c) (int_sum (map g b)) in
    summed (f c) (int_sum (map f b)) (a *ℤ g c) (a *ℤ int_sum (map g b)) (a *ℤ (g c +ℤ int_sum (map g b))) one more e
  where
    summed : (p q r s t : ℤ) → p ≤ℤ r → q ≤ℤ s → t ≡ r +ℤ s → (p +ℤ q) ≤ℤ t
    summed p q r s t h k e = omega (arith, ints)

at-map_le : (a : ℤ) (f g : ℤ → ℤ) → AtMostTimes a f g → (b : List ℤ) (i : ℕ) → at (map f b) i ≤ℤ (a *ℤ at (map g b) i)
unfolding AtMostTimes
at-map_le a f g h [] i = let e = mul_zero a in omega (arith, ints)
at-map_le a f g h (c ∷ b) zero = h c
at-map_le a f g h (c ∷ b) (suc i) = at-map_le a f g h b i

off_sums-le : (a : ℤ) (f g : ℤ → ℤ) → AtMostTimes a f g → (m : List (List ℤ)) (i : ℕ) → at (off_sums (entries f m)) i ≤ℤ (a *ℤ at (off_sums (entries g m)) i)
off_sums-le a f g h [] i = let e = mul_zero a in omega (arith, ints)
off_sums-le a f g h ([] ∷ m) zero = let e = mul_zero a in omega (arith, ints)
off_sums-le a f g h ([] ∷ m) (suc i) = off_sums-le a f g h m i
off_sums-le a f g h ((p ∷ b) ∷ m) zero = int_sum-map_le a f g h b
off_sums-le a f g h ((p ∷ b) ∷ m) (suc i) =
    summed (at (plus_lists (map f b) (off_sums (entries f m))) i) (at (plus_lists (map g b) (off_sums (entries g m))) i)
    (at (map f b) i) (at (off_sums (entries f m)) i) (at (map g b) i) (at (off_sums (entries g m)) i) a
    (at-plus_lists (map f b) (off_sums (entries f m)) i) (at-plus_lists (map g b) (off_sums (entries g m)) i)
    (at-map_le a f g h b i) (off_sums-le a f g h m i)
  where
    summed : (t u p q r s a : ℤ) → t ≡ p +ℤ q → u ≡ r +ℤ s → p ≤ℤ (a *ℤ r) → q ≤ℤ (a *ℤ s) → t ≤ℤ (a *ℤ u)
    summed t u p q r s a e f h k =
        let g : a *ℤ u ≡ a *ℤ r +ℤ a *ℤ s = ap (λ z. a *ℤ z) f ∙ mul_add a r s in
        omega (arith, ints)

-- ---- the two kinds of step
-- nothing is left of a matrix taken off itself
pub unchanged_is_dominant : (m : List (List ℤ)) → IsDominant (minus_matrix m m)
unfolding AtMostTimes
unchanged_is_dominant m i =
    subst (λ n. at (off_sums (entries size_of n)) i ≤ℤ at (diagonal n) i) (sym nothing)
    (below (at (off_sums (entries size_of (entries (λ z. pos 0) m))) i) (at (off_sums (entries (λ z. pos 0) m)) i) (at (diagonal (entries (λ z. pos 0) m)) i)
    (subst (λ n. at (off_sums n) i ≤ℤ (pos 0 *ℤ at (off_sums (entries (λ z. pos 0) m)) i)) (sym (entries-entries size_of (λ z. pos 0) m))
    (off_sums-le (pos 0) (λ z. pos 0) (λ z. pos 0) (λ z. le_refl (pos 0)) m i))
    (at-diagonal-entries (λ z. pos 0) refl m i))
  where
    same : (n : List (List ℤ)) → entries neg_ℤ n ≡ entries neg_ℤ (entries (λ z. z) n)
    same n = sym (entries-entries neg_ℤ (λ z. z) n)

    nothing : minus_matrix m m ≡ entries (λ z. pos 0) m
    nothing =
        ap (λ n. plus_matrix m n) (same m)
        ∙ plus_matrix-entries (λ z. pos 0) neg_ℤ (λ z. z) (λ z. ring (lit 0) (x0 ⊕ opposite_of x0) (z ∷ []) refl) m

    below : (s t d : ℤ) → s ≤ℤ (pos 0 *ℤ t) → d ≡ pos 0 → s ≤ℤ d
    below s t d h e = let z = zero_mul t in omega (arith, ints)

-- what the divided matrix leaves is dominant: the slack covers the remainders of its row
pub lower_is_dominant : (a : ℤ) (b : List ℤ) (m : List (List ℤ)) → pos 0 <ℤ a → IsDominant (schur a b (minus_matrix m (lower_over a (schur a b m))))
unfolding AtMostTimes multiples
lower_is_dominant a b m h i =
    subst (λ n. at (off_sums (entries size_of n)) i ≤ℤ at (diagonal n) i) (sym left)
    (below (at (off_sums (entries size_of (plus_diagonal (entries (left_over a) s) (map k (map neg_ℤ (slacks a s)))))) i)
    (at (off_sums (entries size_of (entries (left_over a) s))) i) (at (slacks a s) i) a
    (at (diagonal (plus_diagonal (entries (left_over a) s) (map k (map neg_ℤ (slacks a s))))) i)
    (at (diagonal (entries (left_over a) s)) i) (left_over a (at (diagonal s) i)) (at (map k (map neg_ℤ (slacks a s))) i) (k (at (map neg_ℤ (slacks a s)) i)) (at (map neg_ℤ (slacks a s)) i)
    (off_sums-plus_diagonal size_of (entries (left_over a) s) (map k (map neg_ℤ (slacks a s))) i)
    (subst (λ n. at (off_sums n) i ≤ℤ (a *ℤ at (slacks a s) i)) (sym (entries-entries size_of (left_over a) s))
    (off_sums-le a (λ z. size_of (left_over a z)) (gap_over a) covered s i))
    (at-diagonal-plus_diagonal (entries (left_over a) s) (map k (map neg_ℤ (slacks a s))) i)
    (at-diagonal-entries (left_over a) nothing_left s i)
    (left_over_nonneg a h (at (diagonal s) i))
    (at-map k k-zero (map neg_ℤ (slacks a s)) i)
    refl
    (at-map neg_ℤ refl (slacks a s) i))
  where
    s : List (List ℤ)
    s = schur a b m

    k : ℤ → ℤ
    k z = a *ℤ neg_ℤ z

    k-zero : k (pos 0) ≡ pos 0
    k-zero = mul_zero a

    nothing_left : left_over a (pos 0) ≡ pos 0
    nothing_left = ap (λ t. pos 0 -ℤ a *ℤ t) (floor_of_zero a h) ∙ ring (lit 0 ⊖ x0 ⊗ lit 0) (lit 0) (a ∷ []) refl

    left : schur a b (minus_matrix m (lower_over a s)) ≡ plus_diagonal (entries (left_over a) s) (map k (map neg_ℤ (slacks a s)))
    left =
        schur-plus_matrix a b m (entries neg_ℤ (lower_over a s))
        ∙ ap (λ n. plus_matrix s n) (entries-entries (λ z. a *ℤ z) neg_ℤ (lower_over a s))
        ∙ plus_matrix-diagonal (left_over a) k (floor_over a) (λ z. ring (x0 ⊖ x1 ⊗ x2) (x0 ⊕ x1 ⊗ opposite_of x2) (z ∷ a ∷ floor_over a z ∷ []) refl)
        (λ x y. ring (x0 ⊗ opposite_of (x1 ⊕ x2)) (x0 ⊗ opposite_of x1 ⊕ x0 ⊗ opposite_of x2) (a ∷ x ∷ y ∷ []) refl) s (map neg_ℤ (slacks a s))

    size_is : (z : ℤ) → pos 0 ≤ℤ z → size_of z ≡ z
    size_is (pos n) g = refl
    size_is (negsuc n) g = absurd (omega (arith, ints))

    covered : (z : ℤ) → size_of (left_over a z) ≤ℤ (a *ℤ gap_over a z)
    covered z =
        let low = left_over_nonneg a h z in
        let most = gap_covers a z h in
        subst (λ t. t ≤ℤ (a *ℤ gap_over a z)) (sym (size_is (left_over a z) low)) (omega (arith, ints))

    below : (u v w a d e f g g' x : ℤ) → u ≡ v → v ≤ℤ (a *ℤ w) → d ≡ e +ℤ g → e ≡ f → pos 0 ≤ℤ f → g ≡ g' → g' ≡ a *ℤ neg_ℤ x → x ≡ neg_ℤ w → u ≤ℤ d
    below u v w a d e f g g' x e1 l1 e2 e3 l2 e4 e5 e6 =
        let p : g' ≡ a *ℤ w = e5 ∙ ap (λ t. a *ℤ neg_ℤ t) e6 ∙ ring (x0 ⊗ opposite_of (opposite_of x1)) (x0 ⊗ x1) (a ∷ w ∷ []) refl in
        omega (arith, ints)

-- ---- the chain
pub lower_step_holds : (row : List ℤ) (m : List (List ℤ)) → stops (step_of row ∷ []) ≡ false → StepHolds row m (next lower_over row m)
lower_step_holds [] m e = unchanged_is_dominant m
lower_step_holds (a ∷ b) m e =
    step_cases (λ s. stops (s ∷ []) ≡ false → StepHolds (a ∷ b) m (left_after lower_over s b m)) a b
    (λ zeros _. inr (is_zero-true a (and_left (is_zero a) (list_all is_zero b) zeros), and_right (is_zero a) (list_all is_zero b) zeros, unchanged_is_dominant m))
    (λ _ _ h. absurd (false_is_not_true (sym h)))
    (λ _ _ h. absurd (false_is_not_true (sym h)))
    (λ above _ _. inl (positive a above, lower_is_dominant a b m (positive a above)))
    e

-- the next matrix of a triangle is a triangle
pub triangle-next_lower : (n : ℕ) (row : List ℤ) (m : List (List ℤ)) → length row ≡ suc n → IsTriangle n m → stops (step_of row ∷ []) ≡ false
    → IsTriangle n (next lower_over row m)
triangle-next_lower n [] m e t h = t
triangle-next_lower n (a ∷ b) m e t h =
    step_cases (λ s. stops (s ∷ []) ≡ false → IsTriangle n (left_after lower_over s b m)) a b
    (λ _ _. t)
    (λ _ _ f. absurd (false_is_not_true (sym f)))
    (λ _ _ f. absurd (false_is_not_true (sym f)))
    (λ _ _ _. triangle-lower_over a n (schur a b m) (triangle-schur a n b m (omega arith) t))
    h

first_of_steps : (s : Step) (t : List Step) → stops (s ∷ t) ≡ false → (stops (s ∷ []) ≡ false) × (stops t ≡ false)
first_of_steps free t e = (refl, e)
first_of_steps (pivot a) t e = (refl, e)
first_of_steps (stop v) t e = absurd (false_is_not_true (sym e))

pub lower_certificate : (n : ℕ) (m : List (List ℤ)) → IsTriangle n m → stops (chain_steps lower_over n m) ≡ false → CertificateHolds (lower_remainders n m) m
lower_certificate zero [] t e = tt
lower_certificate zero (row ∷ rest) t e = absurd t
lower_certificate (suc n) [] t e = absurd t
lower_certificate (suc n) (row ∷ rest) t e =
    let p = first_of_steps (step_of row) (map step_of (chain_rows lower_over n (next lower_over row rest))) e in (
      lower_step_holds row rest p.0,
      lower_certificate n (next lower_over row rest) (triangle-next_lower n row rest t.0 t.1 p.0) p.1,
    )

pub lower_chain_certifies : (n : ℕ) (m : List (List ℤ)) → IsTriangle n m → stops (lower_chain m) ≡ false → CertificateHolds (lower_remainders n m) m
lower_chain_certifies n m t e =
    lower_certificate n m t (subst (λ k. stops (chain_steps lower_over k m) ≡ false) (length-triangle n m t) e)
