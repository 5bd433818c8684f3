-- Sums of weighted products are at most the larger of the two sums of weighted squares.
use Rattle.std.proofs.Common.{◌≡◌, ℕ, Bool, true, false, List, [], ◌∷◌, refl, arith, ℤ, pos, ◌+ℤ◌, ◌*ℤ◌, neg_ℤ, ◌≤ℤ◌}
use Rattle.std.specs.Prelude.{All}
use Rattle.std.proofs.lemmas.Int.{ints}
use Rattle.std.proofs.lemmas.List.Elements.{All-head, All-tail}
use Rattle.whole_algebra.specs.Sums.{int_sum_by}
use Rattle.whole_algebra.proofs.Order.{le_refl, add_nonneg, mul_nonneg, square_nonneg}
use Rattle.whole_algebra.proofs.Normal.{ring, x0, x1, x2, x3, x4, x5, x6, x7, lit, opposite_of, ◌⊕◌, ◌⊗◌}
use Rattle.geo_model.specs.Row.{RowOf, IsRow}
use Rattle.geo_model.specs.Candidate.{CandidateOf, IsCandidate}
use Rattle.geo_model.specs.Limit.{SquareOf}
use Rattle.normal_matrix.specs.Entries.{coefficient, row_entry, normal_entry}
use Rattle.normal_matrix.proofs.PlanSteps.{part_entry}
use Rattle.limit_forms.specs.Form.{load_entry}

-- the form of the two by two matrix with the diagonal a and c and b beside it
abbrev pub pair_form : ℤ → ℤ → ℤ → ℤ → ℤ → ℤ
pair_form s t a b c = ((s *ℤ s) *ℤ a +ℤ pos 2 *ℤ ((s *ℤ t) *ℤ b)) +ℤ (t *ℤ t) *ℤ c

pair_add : (s t a b c d e f : ℤ) → pair_form s t (a +ℤ d) (b +ℤ e) (c +ℤ f) ≡ pair_form s t a b c +ℤ pair_form s t d e f
pair_add s t a b c d e f =
    ring ((((x0 ⊗ x0) ⊗ (x2 ⊕ x5)) ⊕ lit 2 ⊗ ((x0 ⊗ x1) ⊗ (x3 ⊕ x6))) ⊕ (x1 ⊗ x1) ⊗ (x4 ⊕ x7))
    ((((x0 ⊗ x0) ⊗ x2 ⊕ lit 2 ⊗ ((x0 ⊗ x1) ⊗ x3)) ⊕ (x1 ⊗ x1) ⊗ x4) ⊕ (((x0 ⊗ x0) ⊗ x5 ⊕ lit 2 ⊗ ((x0 ⊗ x1) ⊗ x6)) ⊕ (x1 ⊗ x1) ⊗ x7))
    (s ∷ t ∷ a ∷ b ∷ c ∷ d ∷ e ∷ f ∷ []) refl

pair_add_nonneg : (s t a b c d e f : ℤ) → pos 0 ≤ℤ pair_form s t a b c → pos 0 ≤ℤ pair_form s t d e f → pos 0 ≤ℤ pair_form s t (a +ℤ d) (b +ℤ e) (c +ℤ f)
pair_add_nonneg s t a b c d e f h k = rw (pair_add s t a b c d e f) (add_nonneg (pair_form s t a b c) (pair_form s t d e f) h k)

pair_zero : (s t : ℤ) → pos 0 ≤ℤ pair_form s t (pos 0) (pos 0) (pos 0)
pair_zero s t =
    let e : pair_form s t (pos 0) (pos 0) (pos 0) ≡ pos 0 = ring (((x0 ⊗ x0) ⊗ lit 0 ⊕ lit 2 ⊗ ((x0 ⊗ x1) ⊗ lit 0)) ⊕ (x1 ⊗ x1) ⊗ lit 0) (lit 0) (s ∷ t ∷ []) refl in
    rw e (le_refl (pos 0))

pub pair_scale : (w s t a b c : ℤ) → pos 0 ≤ℤ w → pos 0 ≤ℤ pair_form s t a b c → pos 0 ≤ℤ pair_form s t (w *ℤ a) (w *ℤ b) (w *ℤ c)
pair_scale w s t a b c h k =
    let e : pair_form s t (w *ℤ a) (w *ℤ b) (w *ℤ c) ≡ w *ℤ pair_form s t a b c =
    ring (((x1 ⊗ x1) ⊗ (x0 ⊗ x3) ⊕ lit 2 ⊗ ((x1 ⊗ x2) ⊗ (x0 ⊗ x4))) ⊕ (x2 ⊗ x2) ⊗ (x0 ⊗ x5)) (x0 ⊗ (((x1 ⊗ x1) ⊗ x3 ⊕ lit 2 ⊗ ((x1 ⊗ x2) ⊗ x4)) ⊕ (x2 ⊗ x2) ⊗ x5)) (w ∷ s ∷ t ∷ a ∷ b ∷ c ∷ []) refl in
    rw e (mul_nonneg w (pair_form s t a b c) h k)

-- one weighted square
pair_square : (w s t p q : ℤ) → pos 0 ≤ℤ w → pos 0 ≤ℤ pair_form s t (w *ℤ (p *ℤ p)) (w *ℤ (p *ℤ q)) (w *ℤ (q *ℤ q))
pair_square w s t p q h =
    let e : pair_form s t (w *ℤ (p *ℤ p)) (w *ℤ (p *ℤ q)) (w *ℤ (q *ℤ q)) ≡ w *ℤ ((s *ℤ p +ℤ t *ℤ q) *ℤ (s *ℤ p +ℤ t *ℤ q)) =
    ring (((x1 ⊗ x1) ⊗ (x0 ⊗ (x3 ⊗ x3)) ⊕ lit 2 ⊗ ((x1 ⊗ x2) ⊗ (x0 ⊗ (x3 ⊗ x4)))) ⊕ (x2 ⊗ x2) ⊗ (x0 ⊗ (x4 ⊗ x4))) (x0 ⊗ ((x1 ⊗ x3 ⊕ x2 ⊗ x4) ⊗ (x1 ⊗ x3 ⊕ x2 ⊗ x4))) (w ∷ s ∷ t ∷ p ∷ q ∷ []) refl in
    rw e (mul_nonneg w ((s *ℤ p +ℤ t *ℤ q) *ℤ (s *ℤ p +ℤ t *ℤ q)) h (square_nonneg (s *ℤ p +ℤ t *ℤ q)))

weight_nonneg : (w : ℤ) → pos 1 ≤ℤ w → pos 0 ≤ℤ w
weight_nonneg w h = omega (arith, ints)

rows_pair : (rows : List RowOf) (i j : ℕ) (s t : ℤ) → All IsRow rows
    → pos 0 ≤ℤ pair_form s t (int_sum_by (λ row. row_entry row i i) rows) (int_sum_by (λ row. row_entry row i j) rows) (int_sum_by (λ row. row_entry row j j) rows)
rows_pair [] i j s t all = pair_zero s t
rows_pair (row ∷ rest) i j s t all =
    let bounds = All-head IsRow row rest all in
    pair_add_nonneg s t (row_entry row i i) (row_entry row i j) (row_entry row j j)
    (int_sum_by (λ r. row_entry r i i) rest) (int_sum_by (λ r. row_entry r i j) rest) (int_sum_by (λ r. row_entry r j j) rest)
    (pair_square row.weight s t (coefficient row.entries i) (coefficient row.entries j) (weight_nonneg row.weight bounds.weight_low))
    (rows_pair rest i j s t (All-tail IsRow row rest all))

part_pair : (n : ℕ) (chosen : Bool) (candidate : CandidateOf) (i j : ℕ) (s t : ℤ) → IsCandidate n candidate
    → pos 0 ≤ℤ pair_form s t (part_entry chosen candidate i i) (part_entry chosen candidate i j) (part_entry chosen candidate j j)
part_pair n true candidate i j s t bounds = rows_pair candidate.rows i j s t bounds.rows
part_pair n false candidate i j s t bounds = pair_zero s t

pub normal_pair : (n : ℕ) (candidates : List CandidateOf) (plan : List Bool) (i j : ℕ) (s t : ℤ) → All (IsCandidate n) candidates
    → pos 0 ≤ℤ pair_form s t (normal_entry candidates plan i i) (normal_entry candidates plan i j) (normal_entry candidates plan j j)
normal_pair n [] plan i j s t all = pair_zero s t
normal_pair n (candidate ∷ rest) [] i j s t all = pair_zero s t
normal_pair n (candidate ∷ rest) (chosen ∷ plan) i j s t all =
    pair_add_nonneg s t (part_entry chosen candidate i i) (part_entry chosen candidate i j) (part_entry chosen candidate j j)
    (normal_entry rest plan i i) (normal_entry rest plan i j) (normal_entry rest plan j j)
    (part_pair n chosen candidate i j s t (All-head (IsCandidate n) candidate rest all))
    (normal_pair n rest plan i j s t (All-tail (IsCandidate n) candidate rest all))

pub load_pair : (squares : List SquareOf) (i j : ℕ) (s t : ℤ) → All (λ square. pos 1 ≤ℤ square.beta) squares
    → pos 0 ≤ℤ pair_form s t (load_entry squares i i) (load_entry squares i j) (load_entry squares j j)
load_pair [] i j s t all = pair_zero s t
load_pair (square ∷ rest) i j s t all =
    pair_add_nonneg s t (square.beta *ℤ (coefficient square.entries i *ℤ coefficient square.entries i)) (square.beta *ℤ (coefficient square.entries i *ℤ coefficient square.entries j)) (square.beta *ℤ (coefficient square.entries j *ℤ coefficient square.entries j))
    (load_entry rest i i) (load_entry rest i j) (load_entry rest j j)
    (pair_square square.beta s t (coefficient square.entries i) (coefficient square.entries j) (weight_nonneg square.beta (All-head (λ (q : SquareOf). pos 1 ≤ℤ q.beta) square rest all)))
    (load_pair rest i j s t (All-tail (λ (q : SquareOf). pos 1 ≤ℤ q.beta) square rest all))

-- what stands beside the diagonal is at most what bounds both scaled diagonal entries
pub pair_within : (s t a b c h : ℤ) → ((u : ℤ) → pos 0 ≤ℤ pair_form s u a b c) → ((s *ℤ s) *ℤ a) ≤ℤ h → ((t *ℤ t) *ℤ c) ≤ℤ h
    → (neg_ℤ h ≤ℤ ((s *ℤ t) *ℤ b)) × (((s *ℤ t) *ℤ b) ≤ℤ h)
pair_within s t a b c h nonneg first last =
    let plus = nonneg t in
    let minus = nonneg (neg_ℤ t) in
    let e : (s *ℤ neg_ℤ t) *ℤ b ≡ neg_ℤ ((s *ℤ t) *ℤ b) = ring ((x0 ⊗ opposite_of x1) ⊗ x2) (opposite_of ((x0 ⊗ x1) ⊗ x2)) (s ∷ t ∷ b ∷ []) refl in
    let f : (neg_ℤ t *ℤ neg_ℤ t) *ℤ c ≡ (t *ℤ t) *ℤ c = ring ((opposite_of x0 ⊗ opposite_of x0) ⊗ x1) ((x0 ⊗ x0) ⊗ x1) (t ∷ c ∷ []) refl in
    by ((s *ℤ s) *ℤ a) ((s *ℤ t) *ℤ b) ((t *ℤ t) *ℤ c) ((s *ℤ neg_ℤ t) *ℤ b) ((neg_ℤ t *ℤ neg_ℤ t) *ℤ c) plus minus e f first last
  where
    by : (p q r q' r' : ℤ) → pos 0 ≤ℤ ((p +ℤ pos 2 *ℤ q) +ℤ r) → pos 0 ≤ℤ ((p +ℤ pos 2 *ℤ q') +ℤ r') → q' ≡ neg_ℤ q → r' ≡ r → p ≤ℤ h → r ≤ℤ h → (neg_ℤ h ≤ℤ q) × (q ≤ℤ h)
    by p q r q' r' one two e f first last = (omega (arith, ints), omega (arith, ints))
