-- A chain as a loop runs it: what each row adds.
use Rattle.std.proofs.Common.{◌≡◌, ℕ, zero, suc, ◌+◌, ◌<◌, ◌≤◌, false, List, [], ◌∷◌, length, take, refl, sym, ◌∙◌, ap, subst, arith, inl, inr, ℤ, pos, ◌≤ℤ◌, unsigned_abs, ◌-◌}
use Rattle.std.proofs.lemmas.Grind.{common_steps}
use Rattle.std.proofs.lemmas.Bool.{cases_lt}
use Rattle.std.proofs.lemmas.Int.{ints}
use Rattle.whole_algebra.specs.Matrices.{at, IsTriangle}
use Rattle.whole_algebra.specs.Chains.{step_of, is_stop, stop, matrix_after, stops}
use Rattle.whole_algebra.specs.Grid.{row_at}
use Rattle.lent_parts.specs.Triangle.{IsTri, tri_row}
use Rattle.chain_step.specs.Step.{over_of, IsPivotRow, sum_from, left_slack, gap_count}
use Rattle.pivot_chain.specs.Chain.{chain_of, StopsAt, HasGaps}
use Rattle.chain_step.specs.declared.side.Side.{Side}
use Rattle.chain_step.proofs.Matrices.{GoesOn}
use Rattle.chain_step.proofs.Counts.{slack_counted, gap_count_same, gap_count_range}
use Rattle.pivot_chain.proofs.ChainSteps.{no_stop, stops_at}

-- the rows before row k, as they are lent
pub row_before : (rows : List (List ℤ)) (k t : ℕ) → t < k → tri_row (take k rows) t ≡ tri_row rows t
row_before [] zero t lt = absurd (omega arith)
row_before [] (suc k) t lt = refl
row_before (row ∷ rest) zero t lt = absurd (omega arith)
row_before (row ∷ rest) (suc k) zero lt = refl
row_before (row ∷ rest) (suc k) (suc t) lt = row_before rest k t (omega arith)

pub count_before : (rows : List (List ℤ)) (k : ℕ) → k ≤ length rows → length (take k rows) ≡ k
count_before rows k le = grind (arith, common_steps)

-- what a loop knows of the rows of a chain when it comes to row k
pub record IsSoFar (side : Side) (first : List (List ℤ)) (k : ℕ) (rows : List (List ℤ)) : Type 0 where
  pub places : length rows ≡ length first
  pub done : (j : ℕ) → j < k → tri_row rows j ≡ row_at (matrix_after (over_of side) j first) 0
  pub pivots : (j : ℕ) → j < k → IsPivotRow (tri_row rows j)

pub begun : (side : Side) (first rows : List (List ℤ)) → length rows ≡ length first → IsSoFar side first 0 rows
begun side first rows places = record { places = places; done = λ j lt. absurd (omega arith); pivots = λ j lt. absurd (omega arith) }

-- ---- what the rows before row k counted
pub none_counted : (rows gaps : List (List ℤ)) → HasGaps rows gaps 0
none_counted rows gaps i m lt one inside = absurd (omega arith)

-- row k counted, and no other row changed
pub gaps_more : (rows new gaps counts : List (List ℤ)) (k : ℕ) → HasGaps rows gaps k → length new ≡ length rows
    → ((j : ℕ) → (j ≡ k → ⊥) → tri_row new j ≡ tri_row rows j) → ((j : ℕ) → (j ≡ k → ⊥) → tri_row counts j ≡ tri_row gaps j)
    → ((m : ℕ) → 1 ≤ m → k + m < length rows → at (tri_row counts k) m ≡ gap_count rows (length rows - k) m k)
    → HasGaps new counts (k + 1)
gaps_more rows new gaps counts k before places others counted here i m lt one inside =
    elim (cases_lt i k) [
      | inl l ↦ ap (λ row. at row m) (counted i (λ e. absurd (omega arith))) ∙ (before i m l one (omega arith) ∙ same i (omega arith))
      | inr g ↦ (let at_k : i ≡ k = omega arith in
          subst (λ j. at (tri_row counts j) m ≡ gap_count new (length new - j) m j) (sym at_k) (here m one (omega arith) ∙ same k (omega arith)))
    ]
  where
    same : (j : ℕ) → j ≤ k → gap_count rows (length rows - j) m j ≡ gap_count new (length new - j) m j
    same j le = ap (λ n. gap_count rows (n - j) m j) (sym places) ∙ gap_count_same rows new (length new - j) m j (λ t less. sym (others t (λ e. absurd (omega arith))))

pub slack_here : (rows gaps : List (List ℤ)) (k : ℕ) → IsTri (length rows) rows → k < length rows → HasGaps rows gaps k
    → sum_from (λ j. at (tri_row gaps j) (k - j)) 0 k ≡ left_slack rows (length rows - k) k
slack_here rows gaps k shape lt before = slack_counted (length rows) k rows gaps shape lt before

pub few_here : (rows gaps : List (List ℤ)) (k : ℕ) → length rows ≤ 64 → k < length rows → HasGaps rows gaps k
    → (j : ℕ) → j < k → unsigned_abs (at (tri_row gaps j) (k - j)) ≤ 64
few_here rows gaps k few lt before j less =
    let range = gap_count_range rows (length rows - j) (k - j) j in
    within (at (tri_row gaps j) (k - j)) (gap_count rows (length rows - j) (k - j) j) j (before j (k - j) less (omega arith) (omega arith)) (omega arith) range.0 range.1
  where
    within : (s t : ℤ) (n : ℕ) → s ≡ t → n ≤ 64 → pos 0 ≤ℤ t → t ≤ℤ pos n → unsigned_abs s ≤ 64
    within s t n e le low high = omega (arith, ints)

-- ---- row k is done, and no other row changed
pub done_more : (side : Side) (first rows new : List (List ℤ)) (k : ℕ) → IsSoFar side first k rows
    → ((j : ℕ) → (j ≡ k → ⊥) → tri_row new j ≡ tri_row rows j) → tri_row new k ≡ row_at (matrix_after (over_of side) k first) 0
    → (j : ℕ) → j < k + 1 → tri_row new j ≡ row_at (matrix_after (over_of side) j first) 0
done_more side first rows new k so_far others here j lt =
    elim (cases_lt j k) [
      | inl l ↦ others j (λ e. absurd (omega arith)) ∙ so_far.done j l
      | inr g ↦ (let same : j ≡ k = omega arith in subst (λ i. tri_row new i ≡ row_at (matrix_after (over_of side) i first) 0) (sym same) here)
    ]

pub one_more : (side : Side) (first rows new : List (List ℤ)) (k : ℕ) → IsSoFar side first k rows → length new ≡ length rows
    → ((j : ℕ) → (j ≡ k → ⊥) → tri_row new j ≡ tri_row rows j) → tri_row new k ≡ row_at (matrix_after (over_of side) k first) 0 → IsPivotRow (tri_row new k)
    → IsSoFar side first (k + 1) new
one_more side first rows new k so_far places others here pivot = record {
  places = places ∙ so_far.places;
  done = done_more side first rows new k so_far others here;
  pivots = λ j lt. elim (cases_lt j k) [
    | inl l ↦ subst IsPivotRow (sym (others j (λ e. absurd (omega arith)))) (so_far.pivots j l)
    | inr g ↦ (let same : j ≡ k = omega arith in subst (λ i. IsPivotRow (tri_row new i)) (sym same) pivot)
  ];
}

pub goes_on_so_far : (side : Side) (first rows : List (List ℤ)) (k : ℕ) → ((j : ℕ) → j < k → tri_row rows j ≡ row_at (matrix_after (over_of side) j first) 0)
    → ((j : ℕ) → j < k → IsPivotRow (tri_row rows j)) → GoesOn side k first
goes_on_so_far side first rows k done pivots s lt = ap (λ r. is_stop (step_of r)) (sym (done s lt)) ∙ (pivots s lt).goes_on

-- rows of a matrix, as they are written
pub rows_more : (rows new : List (List ℤ)) (f : ℕ → List ℤ) (k : ℕ) → ((j : ℕ) → j < k → tri_row rows j ≡ f j)
    → ((j : ℕ) → (j ≡ k → ⊥) → tri_row new j ≡ tri_row rows j) → tri_row new k ≡ f k → (j : ℕ) → j < k + 1 → tri_row new j ≡ f j
rows_more rows new f k before others here j lt =
    elim (cases_lt j k) [
      | inl l ↦ others j (λ e. absurd (omega arith)) ∙ before j l
      | inr g ↦ (let same : j ≡ k = omega arith in subst (λ i. tri_row new i ≡ f i) (sym same) here)
    ]

-- where it stops
pub stops_here : (side : Side) (first rows : List (List ℤ)) (k : ℕ) (row : List ℤ) (v : ℤ) → IsTriangle (length first) first → k < length first → IsSoFar side first k rows
    → row ≡ row_at (matrix_after (over_of side) k first) 0 → step_of row ≡ stop v → StopsAt (chain_of side first) (record { step = k + 1; value = v })
stops_here side first rows k row v shape lt so_far here e =
    let h = stops_at side k (length first) first v lt shape (goes_on_so_far side first rows k so_far.done so_far.pivots) (ap step_of (sym here) ∙ e) in
    record { stops_here = h.stops_here; place = next k ∙ sym h.place; number = sym h.number }
  where
    next : (k : ℕ) → k + 1 ≡ suc k
    next k = omega arith

pub never_stops : (side : Side) (first rows : List (List ℤ)) (k : ℕ) → IsTriangle (length first) first → length first ≤ k → IsSoFar side first k rows → stops (chain_of side first) ≡ false
never_stops side first rows k shape le so_far =
    no_stop side (length first) first shape (λ s lt. goes_on_so_far side first rows k so_far.done so_far.pivots s (omega arith))
