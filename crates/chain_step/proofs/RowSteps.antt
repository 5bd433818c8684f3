-- A step on one row is the step of the recursion, read at that row.
use Rattle.std.proofs.Common.{set, ◌≡◌, ℕ, zero, suc, ◌+◌, ◌-◌, ◌^◌, ◌<◌, ◌≤◌, false, List, [], ◌∷◌, length, refl, sym, ◌∙◌, ap, ap₂, subst, arith, inl, inr, ℤ, pos, ◌+ℤ◌, ◌*ℤ◌, neg_ℤ, ◌≤ℤ◌, ◌<ℤ◌, unsigned_abs}
use Rattle.std.specs.List.{list_all}
use Rattle.std.proofs.lemmas.Int.{ints}
use Rattle.std.proofs.lemmas.Bool.{cases_lt}
use Rattle.whole_algebra.specs.Rounding.{is_zero, floor_over, gap_over}
use Rattle.whole_algebra.specs.Matrices.{at, schur, slacks, IsTriangle}
use Rattle.whole_algebra.specs.Chains.{step_of, is_stop, left_after, next, matrix_after}
use Rattle.whole_algebra.specs.Grid.{row_at}
use Rattle.whole_algebra.proofs.Ring.{add_zero, mul_comm, mul_zero}
use Rattle.whole_algebra.proofs.Rounding.{floor_of_zero, gap_of_zero, gap_range}
use Rattle.whole_algebra.proofs.Shapes.{triangle-schur, triangle-lower_over, triangle-upper_over}
use Rattle.whole_algebra.proofs.PivotStep.{lower_step-right, lower_step-diagonal, upper_step-right, upper_step-diagonal, slack_of_step}
use Rattle.whole_algebra.proofs.ChainLaws.{step_cases, positive, is_zero-true, and_left}
use Rattle.whole_algebra.proofs.Refutation.{false_is_not_true}
use Rattle.whole_algebra.proofs.Places.{same_list}
use Rattle.lent_parts.proofs.Triangles.{length-tri_row}
use Rattle.chain_step.proofs.RowLaws.{nothing_past}
use Rattle.chain_step.specs.Step.{over_of, IsPivotRow, IsDividing, taken, gap_at, left_of, right_of, slack_of, with_slack, with_left}
use Rattle.chain_step.specs.declared.side.Side.{Side}
use Rattle.chain_step.specs.declared.side.Side.TheVariants.{Lower, Upper}
use Rattle.chain_step.proofs.Gaps.{slack_and_own, right_range, zeros}
use Rattle.chain_step.proofs.Dividing.{pivot_of, dividing, floor_falls, ceil_falls}

-- what code writes in a row whose diagonal is in column k
pub record IsStepped (side : Side) (pivot old new : List ℤ) (k : ℕ) : Type 0 where
  pub long : length new ≡ length old
  pub right : (m : ℕ) → 1 ≤ m → m < length old → at new m ≡ at old m +ℤ taken pivot k (k + m)
  pub diagonal : at new 0 ≡ with_slack side (at old 0 +ℤ taken pivot k k) (gap_at pivot k k) (slack_of pivot k)

-- ---- the matrix of a step
pub triangle_over : (side : Side) (a : ℤ) (n : ℕ) (m : List (List ℤ)) → IsTriangle n m → IsTriangle n (over_of side a m)
triangle_over Lower a n m t = triangle-lower_over a n m t
triangle_over Upper a n m t = triangle-upper_over a n m t

pub triangle_next : (side : Side) (n : ℕ) (row : List ℤ) (rest : List (List ℤ)) → length row ≡ suc n → IsTriangle n rest → is_stop (step_of row) ≡ false
    → IsTriangle n (next (over_of side) row rest)
triangle_next side n [] rest e t go = absurd (omega arith)
triangle_next side n (a ∷ b) rest e t go =
    step_cases (λ s. is_stop s ≡ false → IsTriangle n (left_after (over_of side) s b rest)) a b
    (λ _ _. t)
    (λ _ _ f. absurd (false_is_not_true (sym f)))
    (λ _ _ f. absurd (false_is_not_true (sym f)))
    (λ _ _ _. triangle_over side a n (schur a b rest) (triangle-schur a n b rest (omega arith) t))
    go

-- its entries, in terms of the pivot's row
right_entry : (side : Side) (a : ℤ) (b : List ℤ) (rest : List (List ℤ)) (i m : ℕ) → pos 0 <ℤ a
    → at (row_at (over_of side a (schur a b rest)) i) (suc m) ≡ at (row_at rest i) (suc m) +ℤ floor_over a (neg_ℤ (at b i *ℤ at b (i + suc m)))
right_entry Lower a b rest i m above = lower_step-right a b rest i m above
right_entry Upper a b rest i m above = upper_step-right a b rest i m above

diagonal_entry : (side : Side) (a : ℤ) (b : List ℤ) (rest : List (List ℤ)) (i : ℕ) → pos 0 <ℤ a
    → at (row_at (over_of side a (schur a b rest)) i) 0
    ≡ with_slack side (at (row_at rest i) 0 +ℤ floor_over a (neg_ℤ (at b i *ℤ at b i))) (gap_over a (neg_ℤ (at b i *ℤ at b i))) (at (slacks a (schur a b rest)) i)
diagonal_entry Lower a b rest i above = lower_step-diagonal a b rest i above
diagonal_entry Upper a b rest i above =
    upper_step-diagonal a b rest i above
    ∙ regrouped (at (row_at rest i) 0) (floor_over a (neg_ℤ (at b i *ℤ at b i))) (gap_over a (neg_ℤ (at b i *ℤ at b i))) (at (slacks a (schur a b rest)) i)
  where
    regrouped : (c f g s : ℤ) → c +ℤ (f +ℤ g) +ℤ s ≡ (c +ℤ f) +ℤ (g +ℤ s)
    regrouped c f g s = omega (arith, ints)

slack_entry : (a : ℤ) (n : ℕ) (b : List ℤ) (rest : List (List ℤ)) (i : ℕ) → pos 0 <ℤ a → length b ≡ n → IsTriangle n rest → i < n
    → slack_of (a ∷ b) (suc i) ≡ at (slacks a (schur a b rest)) i
slack_entry a n b rest i above e t lt =
    same (slack_of (a ∷ b) (suc i)) (at (slacks a (schur a b rest)) i) (gap_over a (neg_ℤ (at b i *ℤ at b i)))
    (slack_and_own (a ∷ b) (suc i) (omega arith) (omega arith) ∙ sym (slack_of_step a n b rest i above e t lt))
  where
    same : (s t g : ℤ) → s +ℤ g ≡ t +ℤ g → s ≡ t
    same s t g e = omega (arith, ints)

-- ---- the row that code writes
divided_row : (side : Side) (a : ℤ) (b : List ℤ) (rest : List (List ℤ)) (n : ℕ) (old new : List ℤ) (i : ℕ) → pos 0 <ℤ a → length b ≡ n → IsTriangle n rest → i < n
    → row_at rest i ≡ old → IsStepped side (a ∷ b) old new (suc i) → new ≡ row_at (over_of side a (schur a b rest)) i
divided_row side a b rest n old new i above e t lt is stepped =
    same_list new (row_at (over_of side a (schur a b rest)) i) (stepped.long ∙ ap length (sym is) ∙ length-tri_row n rest i t lt ∙ sym (length-tri_row n (over_of side a (schur a b rest)) i shape lt)) places
  where
    shape : IsTriangle n (over_of side a (schur a b rest))
    shape = triangle_over side a n (schur a b rest) (triangle-schur a n b rest e t)

    placed : (i m : ℕ) → suc i + suc m ≡ suc (i + suc m)
    placed i m = omega arith

    places : (m : ℕ) → m < length new → at new m ≡ at (row_at (over_of side a (schur a b rest)) i) m
    places zero inside =
        stepped.diagonal
        ∙ ap₂ (λ c s. with_slack side (c +ℤ floor_over a (neg_ℤ (at b i *ℤ at b i))) (gap_over a (neg_ℤ (at b i *ℤ at b i))) s) (ap (λ r. at r 0) (sym is)) (slack_entry a n b rest i above e t lt)
        ∙ sym (diagonal_entry side a b rest i above)
    places (suc m) inside =
        stepped.right (suc m) (omega arith) (let l = stepped.long in omega arith)
        ∙ ap₂ (λ c j. c +ℤ floor_over a (neg_ℤ (at b i *ℤ at (a ∷ b) j))) (ap (λ r. at r (suc m)) (sym is)) (placed i m)
        ∙ sym (right_entry side a b rest i m above)

-- beside a 0 nothing is added
nothing_taken : (pivot : List ℤ) (k j : ℕ) → pos 0 <ℤ at pivot 0 → at pivot k ≡ pos 0 → (taken pivot k j ≡ pos 0) × (gap_at pivot k j ≡ pos 0)
nothing_taken pivot k j above e =
    let none : neg_ℤ (at pivot k *ℤ at pivot j) ≡ pos 0 = ap (λ z. neg_ℤ (z *ℤ at pivot j)) e ∙ ap neg_ℤ (mul_comm (pos 0) (at pivot j) ∙ mul_zero (at pivot j)) in (
      ap (floor_over (at pivot 0)) none ∙ floor_of_zero (at pivot 0) above,
      ap (gap_over (at pivot 0)) none ∙ gap_of_zero (at pivot 0) above,
    )

unchanged : (side : Side) (pivot old : List ℤ) (k : ℕ) → pos 0 <ℤ at pivot 0 → at pivot k ≡ pos 0 → IsStepped side pivot old old k
unchanged side pivot old k above e = record {
  long = refl;
  right = λ m one lt. sym (add_zero (at old m)) ∙ ap (λ t. at old m +ℤ t) (sym (nothing_taken pivot k (k + m) above e).0);
  diagonal = with_nothing side (at old 0) (taken pivot k k) (gap_at pivot k k) (slack_of pivot k) (nothing_taken pivot k k above e).0 (nothing_taken pivot k k above e).1 none;
}
  where
    both : (s t : ℤ) → s ≡ pos 0 → t ≡ pos 0 → s +ℤ t ≡ pos 0
    both s t e f = omega (arith, ints)

    none : slack_of pivot k ≡ pos 0
    none = both _ _ (zeros (gap_at pivot k) 1 (k - 1) (λ j. (nothing_taken pivot k j above e).1)) (zeros (gap_at pivot k) (k + 1) (length pivot - (k + 1)) (λ j. (nothing_taken pivot k j above e).1))

    with_nothing : (side : Side) (c f g s : ℤ) → f ≡ pos 0 → g ≡ pos 0 → s ≡ pos 0 → c ≡ with_slack side (c +ℤ f) g s
    with_nothing Lower c f g s e1 e2 e3 = omega (arith, ints)
    with_nothing Upper c f g s e1 e2 e3 = omega (arith, ints)

-- ---- the step of the recursion
stepped_next : (side : Side) (a : ℤ) (b : List ℤ) (rest : List (List ℤ)) (old new : List ℤ) (i : ℕ) → is_stop (step_of (a ∷ b)) ≡ false → IsTriangle (length b) rest → i < length b
    → row_at rest i ≡ old → pos 0 <ℤ a → IsStepped side (a ∷ b) old new (suc i) → new ≡ row_at (next (over_of side) (a ∷ b) rest) i
stepped_next side a b rest old new i go t lt is above stepped =
    step_cases (λ s. is_stop s ≡ false → new ≡ row_at (left_after (over_of side) s b rest) i) a b
    (λ zeros _. absurd (apart a above (is_zero-true a (and_left (is_zero a) (list_all is_zero b) zeros))))
    (λ _ _ f. absurd (false_is_not_true (sym f)))
    (λ _ _ f. absurd (false_is_not_true (sym f)))
    (λ _ _ _. divided_row side a b rest (length b) old new i above refl t lt is stepped)
    go
  where
    apart : (a : ℤ) → pos 0 <ℤ a → a ≡ pos 0 → ⊥
    apart a h e = omega (arith, ints)

skipped_next : (side : Side) (a : ℤ) (b : List ℤ) (rest : List (List ℤ)) (old : List ℤ) (i : ℕ) → is_stop (step_of (a ∷ b)) ≡ false → IsTriangle (length b) rest → i < length b
    → row_at rest i ≡ old → at b i ≡ pos 0 → old ≡ row_at (next (over_of side) (a ∷ b) rest) i
skipped_next side a b rest old i go t lt is none =
    step_cases (λ s. is_stop s ≡ false → old ≡ row_at (left_after (over_of side) s b rest) i) a b
    (λ _ _. sym is)
    (λ _ _ f. absurd (false_is_not_true (sym f)))
    (λ _ _ f. absurd (false_is_not_true (sym f)))
    (λ above _ _. divided_row side a b rest (length b) old old i (positive a above) refl t lt is (unchanged side (a ∷ b) old (suc i) (positive a above) none))
    go

less_one : (i : ℕ) → suc i - 1 ≡ i
less_one i = omega arith

-- with the row of the pivot known
pub stepped_law : (side : Side) (pivot old new : List ℤ) (k : ℕ) → is_stop (step_of pivot) ≡ false → 1 ≤ k → k < length pivot → pos 0 <ℤ at pivot 0 → IsStepped side pivot old new k
    → (matrix : List (List ℤ)) → IsTriangle (length pivot) matrix → row_at matrix 0 ≡ pivot → row_at matrix k ≡ old → new ≡ row_at (matrix_after (over_of side) 1 matrix) (k - 1)
stepped_law side [] old new k go one lt above stepped matrix t first is = absurd (omega arith)
stepped_law side (a ∷ b) old new zero go one lt above stepped matrix t first is = absurd (omega arith)
stepped_law side (a ∷ b) old new (suc i) go one lt above stepped [] t first is = absurd t
stepped_law side (a ∷ b) old new (suc i) go one lt above stepped (row ∷ rest) t first is =
    subst (λ r. new ≡ row_at (next (over_of side) r rest) i) (sym first) (stepped_next side a b rest old new i go t.1 (omega arith) is above stepped)
    ∙ ap (row_at (next (over_of side) row rest)) (sym (less_one i))

pub skipped_law : (side : Side) (pivot old : List ℤ) (k : ℕ) → is_stop (step_of pivot) ≡ false → 1 ≤ k → k < length pivot → at pivot k ≡ pos 0
    → (matrix : List (List ℤ)) → IsTriangle (length pivot) matrix → row_at matrix 0 ≡ pivot → row_at matrix k ≡ old → old ≡ row_at (matrix_after (over_of side) 1 matrix) (k - 1)
skipped_law side [] old k go one lt none matrix t first is = absurd (omega arith)
skipped_law side (a ∷ b) old zero go one lt none matrix t first is = absurd (omega arith)
skipped_law side (a ∷ b) old (suc i) go one lt none [] t first is = absurd t
skipped_law side (a ∷ b) old (suc i) go one lt none (row ∷ rest) t first is =
    subst (λ r. old ≡ row_at (next (over_of side) r rest) i) (sym first) (skipped_next side a b rest old i go t.1 (omega arith) is none)
    ∙ ap (row_at (next (over_of side) row rest)) (sym (less_one i))

-- ---- a step but for the slack left of the diagonal
pub record IsPart (side : Side) (pivot old new : List ℤ) (k : ℕ) : Type 0 where
  pub long : length new ≡ length old
  pub right : (m : ℕ) → 1 ≤ m → m < length old → at new m ≡ at old m +ℤ taken pivot k (k + m)
  pub diagonal : at new 0 ≡ with_slack side (at old 0 +ℤ taken pivot k k) (gap_at pivot k k) (right_of pivot k)

pub length-with_left : (side : Side) (slack : ℤ) (row : List ℤ) → length (with_left side slack row) ≡ length row
length-with_left side slack [] = refl
length-with_left side slack (head ∷ row) = refl

beside_left : (side : Side) (slack : ℤ) (row : List ℤ) (m : ℕ) → 1 ≤ m → at (with_left side slack row) m ≡ at row m
beside_left side slack [] m one = refl
beside_left side slack (head ∷ row) zero one = absurd (omega arith)
beside_left side slack (head ∷ row) (suc m) one = refl

head_left : (side : Side) (slack : ℤ) (row : List ℤ) → 0 < length row → at (with_left side slack row) 0 ≡ with_slack side (at row 0) (pos 0) slack
head_left side slack [] some = absurd (omega arith)
head_left side slack (head ∷ row) some = refl

-- where nothing is lacking
pub none_lacking : (side : Side) (row : List ℤ) → with_left side (pos 0) row ≡ row
none_lacking side [] = refl
none_lacking side (head ∷ row) = ap (λ h. h ∷ row) (same side head)
  where
    same : (side : Side) (h : ℤ) → with_slack side h (pos 0) (pos 0) ≡ h
    same Lower h = omega (arith, ints)
    same Upper h = omega (arith, ints)

-- with all that is lacking it is the whole step
whole_step : (side : Side) (pivot old new : List ℤ) (k : ℕ) (slack : ℤ) → 0 < length old → IsPart side pivot old new k
    → IsStepped side pivot (with_left side slack old) (with_left side (slack +ℤ left_of pivot k) new) k
whole_step side pivot old new k slack some part = record {
  long = length-with_left side (slack +ℤ left_of pivot k) new ∙ (part.long ∙ sym (length-with_left side slack old));
  right = λ m one lt. beside_left side (slack +ℤ left_of pivot k) new m one
      ∙ (part.right m one (let l = length-with_left side slack old in omega arith)
      ∙ ap (λ z. z +ℤ taken pivot k (k + m)) (sym (beside_left side slack old m one)));
  diagonal = head_left side (slack +ℤ left_of pivot k) new (let l = part.long in omega arith)
      ∙ gathered side (at old 0) (at (with_left side slack old) 0) (at new 0) slack (left_of pivot k) (right_of pivot k) (taken pivot k k) (gap_at pivot k k)
      part.diagonal (head_left side slack old some);
}
  where
    gathered : (side : Side) (h p n d l r f g : ℤ) → n ≡ with_slack side (h +ℤ f) g r → p ≡ with_slack side h (pos 0) d
        → with_slack side n (pos 0) (d +ℤ l) ≡ with_slack side (p +ℤ f) g (l +ℤ r)
    gathered Lower h p n d l r f g e1 e2 = omega (arith, ints)
    gathered Upper h p n d l r f g e1 e2 = omega (arith, ints)

pub part_law : (side : Side) (pivot old new : List ℤ) (k : ℕ) → 0 < length old → is_stop (step_of pivot) ≡ false → 1 ≤ k → k < length pivot → pos 0 <ℤ at pivot 0
    → IsPart side pivot old new k
    → (slack : ℤ) (matrix : List (List ℤ)) → IsTriangle (length pivot) matrix → row_at matrix 0 ≡ pivot → row_at matrix k ≡ with_left side slack old
    → with_left side (slack +ℤ left_of pivot k) new ≡ row_at (matrix_after (over_of side) 1 matrix) (k - 1)
part_law side pivot old new k some go one lt above part slack matrix t first is =
    stepped_law side pivot (with_left side slack old) (with_left side (slack +ℤ left_of pivot k) new) k go one lt above
    (whole_step side pivot old new k slack some part) matrix t first is

-- beside a 0 nothing is counted
pub nothing_counted : (pivot : List ℤ) (k j : ℕ) → is_stop (step_of pivot) ≡ false → at pivot k ≡ pos 0 → gap_at pivot k j ≡ pos 0
nothing_counted [] k j go e = refl
nothing_counted (a ∷ b) k j go e =
    step_cases (λ s. is_stop s ≡ false → gap_at (a ∷ b) k j ≡ pos 0) a b
    (λ zeros _. ap₂ gap_over (is_zero-true a (and_left (is_zero a) (list_all is_zero b) zeros)) none)
    (λ _ _ f. absurd (false_is_not_true (sym f)))
    (λ _ _ f. absurd (false_is_not_true (sym f)))
    (λ above _ _. (nothing_taken (a ∷ b) k j (positive a above) e).1)
    go
  where
    none : neg_ℤ (at (a ∷ b) k *ℤ at (a ∷ b) j) ≡ pos 0
    none = ap (λ z. neg_ℤ (z *ℤ at (a ∷ b) j)) e ∙ ap neg_ℤ (mul_comm (pos 0) (at (a ∷ b) j) ∙ mul_zero (at (a ∷ b) j))

pub skipped_part_law : (side : Side) (pivot old : List ℤ) (k : ℕ) → is_stop (step_of pivot) ≡ false → 1 ≤ k → k < length pivot → at pivot k ≡ pos 0
    → (slack : ℤ) (matrix : List (List ℤ)) → IsTriangle (length pivot) matrix → row_at matrix 0 ≡ pivot → row_at matrix k ≡ with_left side slack old
    → with_left side (slack +ℤ left_of pivot k) old ≡ row_at (matrix_after (over_of side) 1 matrix) (k - 1)
skipped_part_law side pivot old k go one lt none slack matrix t first is =
    ap (λ s. with_left side s old) (nothing_more slack (left_of pivot k) (zeros (gap_at pivot k) 1 (k - 1) (λ j. nothing_counted pivot k j go none)))
    ∙ skipped_law side pivot (with_left side slack old) k go one lt none matrix t first is
  where
    nothing_more : (s t : ℤ) → t ≡ pos 0 → s +ℤ t ≡ s
    nothing_more s t e = omega (arith, ints)

-- the slack that was lacking is added
pub made_whole : (side : Side) (row : List ℤ) (slack number : ℤ) → 0 < length row → number ≡ with_slack side (at row 0) (pos 0) slack → set row 0 number ≡ with_left side slack row
made_whole side [] slack number some e = absurd (omega arith)
made_whole side (head ∷ row) slack number some e = ap (λ h. h ∷ row) e

-- ---- numbers that are counted
pub counted_more : (old new : List ℤ) (pivot : List ℤ) (k : ℕ) → length new ≡ length old → at new 0 ≡ at old 0
    → ((m : ℕ) → 1 ≤ m → m < length old → at new m ≡ at old m +ℤ gap_at pivot k (k + m))
    → (m : ℕ) → unsigned_abs (at new m) ≤ unsigned_abs (at old m) + 1
counted_more old new pivot k long first others m =
    elim (cases_lt m (length old)) [
      | inl inside ↦ within m inside
      | inr past ↦ (let e = nothing_past new m (omega arith) in subst (λ z. unsigned_abs z ≤ unsigned_abs (at old m) + 1) (sym e) (omega arith))
    ]
  where
    one_more : (c n g : ℤ) → n ≡ c +ℤ g → pos 0 ≤ℤ g → g ≤ℤ pos 1 → unsigned_abs n ≤ unsigned_abs c + 1
    one_more c n g e low high = omega (arith, ints)

    same : (c n : ℤ) → n ≡ c → unsigned_abs n ≤ unsigned_abs c + 1
    same c n e = omega (arith, ints)

    within : (m : ℕ) → m < length old → unsigned_abs (at new m) ≤ unsigned_abs (at old m) + 1
    within zero inside = same (at old 0) (at new 0) first
    within (suc m) inside =
        let gap = gap_range (at pivot 0) (neg_ℤ (at pivot k *ℤ at pivot (k + suc m))) in
        one_more (at old (suc m)) (at new (suc m)) (gap_at pivot k (k + suc m)) (others (suc m) (omega arith) inside) gap.0 gap.1

-- ---- how large a row becomes
pub part_size : (side : Side) (pivot old new : List ℤ) (k : ℕ) → IsDividing pivot → 1 ≤ k → k < length pivot → IsPart side pivot old new k
    → (m : ℕ) → unsigned_abs (at new m) ≤ unsigned_abs (at old m) + 2 ^ 62
part_size side pivot old new k d one lt part m =
    elim (cases_lt m (length old)) [
      | inl inside ↦ within m inside
      | inr past ↦ (let e = nothing_past new m (let l = part.long in omega arith) in subst (λ z. unsigned_abs z ≤ unsigned_abs (at old m) + 2 ^ 62) (sym e) (omega arith))
    ]
  where
    entry : (c f : ℤ) → unsigned_abs f ≤ 2 ^ 61 → unsigned_abs (c +ℤ f) ≤ unsigned_abs c + 2 ^ 62
    entry c f h = omega (arith, ints)

    head : (side : Side) (c f g s : ℤ) → unsigned_abs f ≤ 2 ^ 61 → pos 0 ≤ℤ g → g ≤ℤ pos 1 → pos 0 ≤ℤ s → s ≤ℤ pos 64 → unsigned_abs (with_slack side (c +ℤ f) g s) ≤ unsigned_abs c + 2 ^ 62
    head Lower c f g s h g0 g1 s0 s1 = omega (arith, ints)
    head Upper c f g s h g0 g1 s0 s1 = omega (arith, ints)

    most : (s : ℤ) (n : ℕ) → s ≤ℤ pos n → n ≤ 64 → s ≤ℤ pos 64
    most s n h le = omega (arith, ints)

    within : (m : ℕ) → m < length old → unsigned_abs (at new m) ≤ unsigned_abs (at old m) + 2 ^ 62
    within zero inside =
        let gap = gap_range (at pivot 0) (neg_ℤ (at pivot k *ℤ at pivot k)) in
        let slack = right_range pivot k lt in
        subst (λ z. unsigned_abs z ≤ unsigned_abs (at old 0) + 2 ^ 62) (sym part.diagonal)
        (head side (at old 0) (taken pivot k k) (gap_at pivot k k) (right_of pivot k) (d.taken_size k k one one) gap.0 gap.1 slack.0 (most (right_of pivot k) (length pivot) slack.1 d.few))
    within (suc m) inside =
        subst (λ z. unsigned_abs z ≤ unsigned_abs (at old (suc m)) + 2 ^ 62) (sym (part.right (suc m) (omega arith) inside))
        (entry (at old (suc m)) (taken pivot k (k + suc m)) (d.taken_size k (k + suc m) one (omega arith)))

pub part_head : (side : Side) (pivot old new : List ℤ) (k : ℕ) → IsDividing pivot → k < length pivot → IsPart side pivot old new k → at new 0 ≤ℤ (at old 0 +ℤ pos 64)
part_head side pivot old new k d lt part =
    let gap = gap_range (at pivot 0) (neg_ℤ (at pivot k *ℤ at pivot k)) in
    let slack = right_range pivot k lt in
    subst (λ z. z ≤ℤ (at old 0 +ℤ pos 64)) (sym part.diagonal)
    (head side (at old 0) (taken pivot k k) (gap_at pivot k k) (right_of pivot k) (length pivot) (floor_falls (at pivot 0) (at pivot k) d.above) (ceil_falls (at pivot 0) (at pivot k) d.above) slack.0 slack.1 d.few)
  where
    head : (side : Side) (c f g s : ℤ) (n : ℕ) → f ≤ℤ pos 0 → (f +ℤ g) ≤ℤ pos 0 → pos 0 ≤ℤ s → s ≤ℤ pos n → n ≤ 64 → with_slack side (c +ℤ f) g s ≤ℤ (c +ℤ pos 64)
    head Lower c f g s n h k s0 s1 le = omega (arith, ints)
    head Upper c f g s n h k s0 s1 le = omega (arith, ints)

-- the row of a step, judged by the number in the row's own column
pub dividing_at : (pivot : List ℤ) (k : ℕ) → IsPivotRow pivot → 1 ≤ k → (at pivot k ≡ pos 0 → ⊥) → IsDividing pivot
dividing_at pivot k p one some = dividing pivot (pivot_of pivot k p.goes_on one some) p.few p.head
