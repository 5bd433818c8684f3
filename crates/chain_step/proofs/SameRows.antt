-- Equal first rows of two matrices give equal first rows of their chains.
use Rattle.std.proofs.Common.{◌≡◌, ℕ, zero, suc, ◌+◌, ◌-◌, ◌<◌, List, [], ◌∷◌, length, refl, sym, ◌∙◌, ap, arith, ℤ, pos, ◌-ℤ◌, ◌*ℤ◌, ◌<ℤ◌}
use Rattle.whole_algebra.specs.Matrices.{at, schur, IsTriangle}
use Rattle.whole_algebra.specs.Chains.{next, left_after, chain_rows}
use Rattle.whole_algebra.specs.Grid.{row_at, SameFirstRows}
use Rattle.whole_algebra.proofs.Shapes.{triangle-schur}
use Rattle.whole_algebra.proofs.Places.{at-row_at-schur}
use Rattle.whole_algebra.proofs.ChainLaws.{step_cases, positive}
use Rattle.whole_algebra.proofs.FirstRows.{rows_by_places, lower_over-first_rows, upper_over-first_rows}
use Rattle.chain_step.specs.Step.{over_of}
use Rattle.chain_step.specs.declared.side.Side.{Side}
use Rattle.chain_step.specs.declared.side.Side.TheVariants.{Lower, Upper}
use Rattle.chain_step.proofs.RowSteps.{triangle_over}

-- what a pivot leaves, before it is divided
schur-same : (a : ℤ) (b : List ℤ) (n count : ℕ) (m o : List (List ℤ)) → length b ≡ n → IsTriangle n m → IsTriangle n o → SameFirstRows count m o
    → SameFirstRows count (schur a b m) (schur a b o)
schur-same a b n count m o long left right same i lt =
    rows_by_places n (schur a b m) (schur a b o) i (triangle-schur a n b m long left) (triangle-schur a n b o long right)
    (λ inside k. at-row_at-schur a b m i k ∙ (ap (λ row. a *ℤ at row k -ℤ at b i *ℤ at b (i + k)) (same i lt) ∙ sym (at-row_at-schur a b o i k)))

over-same : (side : Side) (a : ℤ) (n count : ℕ) (m o : List (List ℤ)) → pos 0 <ℤ a → IsTriangle n m → IsTriangle n o → SameFirstRows count m o
    → SameFirstRows count (over_of side a m) (over_of side a o)
over-same Lower a n count m o above left right same = lower_over-first_rows a n count m o above left right same
over-same Upper a n count m o above left right same = upper_over-first_rows a n count m o above left right same

-- after one step, where the shorter chains are known to agree
next-same : (side : Side) (steps n count : ℕ) (row : List ℤ) (m o : List (List ℤ)) → length row ≡ suc n → IsTriangle n m → IsTriangle n o → SameFirstRows count m o
    → ((p q : List (List ℤ)) → IsTriangle n p → IsTriangle n q → SameFirstRows count p q → SameFirstRows count (chain_rows (over_of side) steps p) (chain_rows (over_of side) steps q))
    → (i : ℕ) → i < count → row_at (chain_rows (over_of side) steps (next (over_of side) row m)) i ≡ row_at (chain_rows (over_of side) steps (next (over_of side) row o)) i
next-same side steps n count [] m o long left right same shorter i lt = absurd (omega arith)
next-same side steps n count (a ∷ b) m o long left right same shorter i lt =
    let over = over_of side in
    let beside : length b ≡ n = omega arith in
    step_cases (λ s. row_at (chain_rows over steps (left_after over s b m)) i ≡ row_at (chain_rows over steps (left_after over s b o)) i) a b
    (λ _. shorter m o left right same i lt)
    (λ _ _. refl)
    (λ _ _. refl)
    (λ above _.
    let p = triangle-schur a n b m beside left in
    let q = triangle-schur a n b o beside right in
    shorter (over a (schur a b m)) (over a (schur a b o)) (triangle_over side a n (schur a b m) p) (triangle_over side a n (schur a b o) q)
    (over-same side a n count (schur a b m) (schur a b o) (positive a above) p q (schur-same a b n count m o beside left right same)) i lt)

pub chain_rows_same : (side : Side) (steps n count : ℕ) (m o : List (List ℤ)) → IsTriangle n m → IsTriangle n o → SameFirstRows count m o
    → SameFirstRows count (chain_rows (over_of side) steps m) (chain_rows (over_of side) steps o)
chain_rows_same side zero n count m o left right same i lt = refl
chain_rows_same side (suc steps) zero count [] [] left right same i lt = refl
chain_rows_same side (suc steps) zero count [] (row ∷ o) left right same i lt = absurd right
chain_rows_same side (suc steps) zero count (row ∷ m) o left right same i lt = absurd left
chain_rows_same side (suc steps) (suc n) count [] o left right same i lt = absurd left
chain_rows_same side (suc steps) (suc n) count (row ∷ m) [] left right same i lt = absurd right
chain_rows_same side (suc steps) (suc n) count (row ∷ m) (other ∷ o) left right same zero lt = same 0 lt
chain_rows_same side (suc steps) (suc n) count (row ∷ m) (other ∷ o) left right same (suc i) lt =
    next-same side steps n (count - 1) row m o left.0 left.1 right.1 (λ j inside. same (suc j) (omega arith)) (chain_rows_same side steps n (count - 1)) i (omega arith)
    ∙ ap (λ r. row_at (chain_rows (over_of side) steps (next (over_of side) r o)) i) (same 0 (omega arith))
