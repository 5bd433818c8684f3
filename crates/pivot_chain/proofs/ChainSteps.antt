-- Where a chain stops, told by the first rows of its matrices.
use Rattle.std.proofs.Common.{◌≡◌, ℕ, zero, suc, ◌-◌, ◌<◌, ◌≤◌, true, false, cond, List, [], ◌∷◌, map, get_or, refl, sym, ◌∙◌, ap, ap₂, subst, arith, ℤ}
use Rattle.whole_algebra.specs.Matrices.{at, IsTriangle}
use Rattle.whole_algebra.specs.Chains.{Step, free, pivot, stop, step_of, is_stop, next, chain_rows, matrix_after, chain_steps, stops, stop_place, stop_value, pivot_value, pivot_at, met, refuted, open_at, outcome_of}
use Rattle.whole_algebra.specs.Grid.{row_at}
use Rattle.whole_algebra.specs.Rounding.{is_zero}
use Rattle.std.specs.List.{list_all}
use Rattle.whole_algebra.proofs.Places.{row_at-chain_rows}
use Rattle.whole_algebra.proofs.ChainLaws.{step_cases, is_zero-true, and_left}
use Rattle.whole_algebra.proofs.Refutation.{false_is_not_true}
use Rattle.whole_algebra.proofs.Sizes.{or_parts}
use Rattle.chain_step.proofs.RowLaws.{neither}
use Rattle.chain_step.specs.Step.{over_of}
use Rattle.chain_step.specs.declared.side.Side.{Side}
use Rattle.chain_step.proofs.Matrices.{GoesOn}
use Rattle.chain_step.proofs.RowSteps.{triangle_next}

-- ---- a chain that goes on to its end
pub no_stop : (side : Side) (n : ℕ) (m : List (List ℤ)) → IsTriangle n m → GoesOn side n m → stops (chain_steps (over_of side) n m) ≡ false
no_stop side zero m t go = refl
no_stop side (suc n) [] t go = absurd t
no_stop side (suc n) (row ∷ rest) t go =
    neither (is_stop (step_of row)) (stops (chain_steps (over_of side) n (next (over_of side) row rest))) (go 0 (omega arith))
    (no_stop side n (next (over_of side) row rest) (triangle_next side n row rest t.0 t.1 (go 0 (omega arith))) (λ s lt. go (suc s) (omega arith)))

-- ---- a chain that stops at a step
pub record Stopped (steps : List Step) (k : ℕ) (v : ℤ) : Type 0 where
  pub stops_here : stops steps ≡ true
  pub place : stop_place steps ≡ k
  pub number : stop_value steps ≡ v

later : (s : Step) (steps : List Step) (k : ℕ) (v : ℤ) → is_stop s ≡ false → Stopped steps k v → Stopped (s ∷ steps) (suc k) v
later free steps k v go h = record {
  stops_here = h.stops_here;
  place = ap (λ b. cond b (suc (stop_place steps)) 0) h.stops_here ∙ ap suc h.place;
  number = h.number;
}
later (pivot a) steps k v go h = record {
  stops_here = h.stops_here;
  place = ap (λ b. cond b (suc (stop_place steps)) 0) h.stops_here ∙ ap suc h.place;
  number = h.number;
}
later (stop w) steps k v go h = absurd (false_is_not_true (sym go))

first : (s : Step) (steps : List Step) (v : ℤ) → s ≡ stop v → Stopped (s ∷ steps) 1 v
first s steps v e = subst (λ t. Stopped (t ∷ steps) 1 v) (sym e) (record { stops_here = refl; place = refl; number = refl })

pub stops_at : (side : Side) (k n : ℕ) (m : List (List ℤ)) (v : ℤ) → k < n → IsTriangle n m → GoesOn side k m → step_of (row_at (matrix_after (over_of side) k m) 0) ≡ stop v
    → Stopped (chain_steps (over_of side) n m) (suc k) v
stops_at side k zero m v lt t go e = absurd (omega arith)
stops_at side k (suc n) [] v lt t go e = absurd t
stops_at side zero (suc n) (row ∷ rest) v lt t go e = first (step_of row) (chain_steps (over_of side) n (next (over_of side) row rest)) v e
stops_at side (suc k) (suc n) (row ∷ rest) v lt t go e =
    later (step_of row) (chain_steps (over_of side) n (next (over_of side) row rest)) (suc k) v (go 0 (omega arith))
    (stops_at side k n (next (over_of side) row rest) v (omega arith) (triangle_next side n row rest t.0 t.1 (go 0 (omega arith))) (λ s l. go (suc s) (omega arith)) e)

-- ---- the pivots of a chain that doesn't stop
pub each_goes_on : (steps : List Step) (k : ℕ) → stops steps ≡ false → is_stop (get_or steps k free) ≡ false
each_goes_on [] k e = refl
each_goes_on (s ∷ steps) zero e = (or_parts (is_stop s) (stops steps) e).0
each_goes_on (s ∷ steps) (suc k) e = each_goes_on steps k (or_parts (is_stop s) (stops steps) e).1

pub step_of_row : (rows : List (List ℤ)) (k : ℕ) → get_or (map step_of rows) k free ≡ step_of (row_at rows k)
step_of_row [] k = refl
step_of_row (row ∷ rows) zero = refl
step_of_row (row ∷ rows) (suc k) = step_of_row rows k

-- the head of a row that goes on is its pivot, or the 0 of a free step
head_is : (row : List ℤ) → is_stop (step_of row) ≡ false → at row 0 ≡ pivot_value (step_of row)
head_is [] e = refl
head_is (a ∷ b) e =
    step_cases (λ s. is_stop s ≡ false → a ≡ pivot_value s) a b
    (λ zeros _. is_zero-true a (and_left (is_zero a) (list_all is_zero b) zeros))
    (λ _ _ f. absurd (false_is_not_true (sym f)))
    (λ _ _ f. absurd (false_is_not_true (sym f)))
    (λ _ _ _. refl)
    e

pub pivot_read : (side : Side) (n k : ℕ) (m : List (List ℤ)) (row : List ℤ) → 1 ≤ k → k ≤ n → stops (chain_steps (over_of side) n m) ≡ false
    → row ≡ row_at (matrix_after (over_of side) (k - 1) m) 0 → at row 0 ≡ pivot_at (chain_steps (over_of side) n m) k
pivot_read side n k m row one le go e =
    let rows = chain_rows (over_of side) n m in
    let same : row ≡ row_at rows (k - 1) = e ∙ sym (row_at-chain_rows (over_of side) n (k - 1) m (omega arith)) in
    let here : is_stop (step_of (row_at rows (k - 1))) ≡ false = ap is_stop (sym (step_of_row rows (k - 1))) ∙ each_goes_on (map step_of rows) (k - 1) go in
    ap (λ r. at r 0) same ∙ head_is (row_at rows (k - 1)) here ∙ ap pivot_value (sym (step_of_row rows (k - 1)))

-- ---- the outcome
pub outcome_open : (low high : List Step) (k : ℕ) (lo hi : ℤ) → stops low ≡ true → stops high ≡ false → k ≡ stop_place low → lo ≡ stop_value low → hi ≡ pivot_at high k
    → outcome_of low high ≡ open_at k lo hi
outcome_open low high k lo hi e f place number value =
    ap₂ (λ a b. cond a (cond b refuted (open_at (stop_place low) (stop_value low) (pivot_at high (stop_place low)))) met) e f
    ∙ ap₂ (λ p q. open_at p q (pivot_at high p)) (sym place) (sym number)
    ∙ ap (open_at k lo) (sym value)
