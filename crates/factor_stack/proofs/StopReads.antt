-- Where a chain stops, read from its steps.
use Rattle.std.proofs.Common.{◌≡◌, ℕ, zero, suc, ◌-◌, ◌<◌, true, false, cond, List, [], ◌∷◌, length, get_or, refl, sym, ◌∙◌, ap, arith, ℤ}
use Rattle.whole_algebra.specs.Matrices.{IsTriangle}
use Rattle.whole_algebra.specs.Chains.{Step, free, pivot, stop, step_of, is_stop, beside, next, left_after, chain_rows, chain_steps, stops, stop_place, stop_value}
use Rattle.whole_algebra.proofs.VerdictLaws.{stop_place-range}
use Rattle.whole_algebra.proofs.Refutation.{false_is_not_true}
use Rattle.chain_step.specs.Step.{over_of}
use Rattle.chain_step.specs.declared.side.Side.{Side}
use Rattle.chain_step.proofs.Matrices.{GoesOn}
use Rattle.chain_step.proofs.RowSteps.{triangle_next}

-- ---- the step that stops, and those before it
later_stop : (s : Step) (steps : List Step) → stop_place (s ∷ steps) ≡ suc (stop_place steps) → 0 < stop_place steps
    → get_or steps (stop_place steps - 1) free ≡ stop (stop_value steps) → get_or (s ∷ steps) (stop_place (s ∷ steps) - 1) free ≡ stop (stop_value steps)
later_stop s steps place some e = ap (λ k. get_or (s ∷ steps) k free) (one_less (stop_place (s ∷ steps)) (stop_place steps) place some) ∙ e
  where
    one_less : (p q : ℕ) → p ≡ suc q → 0 < q → p - 1 ≡ suc (q - 1)
    one_less p q h g = omega arith

pub stop_read : (steps : List Step) → stops steps ≡ true → get_or steps (stop_place steps - 1) free ≡ stop (stop_value steps)
stop_read [] e = absurd (false_is_not_true e)
stop_read (free ∷ steps) e = later_stop free steps (ap (λ b. cond b (suc (stop_place steps)) 0) e) (stop_place-range steps e).0 (stop_read steps e)
stop_read (pivot a ∷ steps) e = later_stop (pivot a) steps (ap (λ b. cond b (suc (stop_place steps)) 0) e) (stop_place-range steps e).0 (stop_read steps e)
stop_read (stop v ∷ steps) e = refl

later_goes : (s : Step) (steps : List Step) (j : ℕ) → stops steps ≡ true → stop_place (s ∷ steps) ≡ suc (stop_place steps) → is_stop s ≡ false
    → ((i : ℕ) → suc i < stop_place steps → is_stop (get_or steps i free) ≡ false) → suc j < stop_place (s ∷ steps) → is_stop (get_or (s ∷ steps) j free) ≡ false
later_goes s steps zero e place go rest lt = go
later_goes s steps (suc j) e place go rest lt = rest j (omega arith)

pub goes_before : (steps : List Step) → stops steps ≡ true → (j : ℕ) → suc j < stop_place steps → is_stop (get_or steps j free) ≡ false
goes_before [] e j lt = absurd (false_is_not_true e)
goes_before (free ∷ steps) e j lt = later_goes free steps j e (ap (λ b. cond b (suc (stop_place steps)) 0) e) refl (goes_before steps e) lt
goes_before (pivot a ∷ steps) e j lt = later_goes (pivot a) steps j e (ap (λ b. cond b (suc (stop_place steps)) 0) e) refl (goes_before steps e) lt
goes_before (stop v ∷ steps) e j lt = absurd (omega arith)

-- ---- how many rows a chain has
pub rows_of_whole : (side : Side) (n : ℕ) (m : List (List ℤ)) → IsTriangle n m → GoesOn side n m → length (chain_rows (over_of side) n m) ≡ n
rows_of_whole side zero m t go = refl
rows_of_whole side (suc n) [] t go = absurd t
rows_of_whole side (suc n) (row ∷ rest) t go =
    ap suc (rows_of_whole side n (next (over_of side) row rest) (triangle_next side n row rest t.0 t.1 (go 0 (omega arith))) (λ s lt. go (suc s) (omega arith)))

none_left : (over : ℤ → List (List ℤ) → List (List ℤ)) (n : ℕ) → length (chain_rows over n []) ≡ 0
none_left over zero = refl
none_left over (suc n) = refl

rows_by : (over : ℤ → List (List ℤ) → List (List ℤ)) (n : ℕ) (rest : List (List ℤ)) (s : Step) (b : List ℤ)
    → ((m : List (List ℤ)) → stops (chain_steps over n m) ≡ true → length (chain_rows over n m) ≡ stop_place (chain_steps over n m))
    → stops (s ∷ chain_steps over n (left_after over s b rest)) ≡ true
    → suc (length (chain_rows over n (left_after over s b rest))) ≡ stop_place (s ∷ chain_steps over n (left_after over s b rest))
rows_by over n rest free b shorter e =
    ap suc (shorter rest e) ∙ sym (ap (λ t. cond t (suc (stop_place (chain_steps over n rest))) 0) e)
rows_by over n rest (pivot a) b shorter e =
    ap suc (shorter (left_after over (pivot a) b rest) e) ∙ sym (ap (λ t. cond t (suc (stop_place (chain_steps over n (left_after over (pivot a) b rest)))) 0) e)
rows_by over n rest (stop v) b shorter e = ap suc (none_left over n)

pub rows_to_stop : (over : ℤ → List (List ℤ) → List (List ℤ)) (n : ℕ) (m : List (List ℤ)) → stops (chain_steps over n m) ≡ true
    → length (chain_rows over n m) ≡ stop_place (chain_steps over n m)
rows_to_stop over zero m e = absurd (false_is_not_true e)
rows_to_stop over (suc n) [] e = absurd (false_is_not_true e)
rows_to_stop over (suc n) (row ∷ rest) e = rows_by over n rest (step_of row) (beside row) (rows_to_stop over n) e
