use Rattle.std.proofs.Common.{◌≡◌, ℕ, ◌+◌, ◌-◌, ◌<◌, ◌≤◌, List, length, length-set, refl, sym, ◌∙◌, ap, ap₂, subst, arith, ℤ, pos, ◌≤ℤ◌, ◌^◌, slice_set}
use Rattle.std.specs.Prelude.{MatchOption, Option, Some, None, false}
use Rattle.whole_algebra.specs.Matrices.{at}
use Rattle.whole_algebra.specs.Chains.{step_of, stop, is_stop, matrix_after}
use Rattle.whole_algebra.specs.Grid.{row_at}
use Rattle.lent_parts.proofs.Triangles.{length-tri_row}
use Rattle.lent_parts.specs.Triangle.{IsTri, refilled, tri_row}
use Rattle.std.proofs.lemmas.Int.{to_z-of_z}
use Rattle.chain_step.specs.Step.{over_of, IsPivotRow, left_slack, gap_count}
use Rattle.chain_step.proofs.Counts.{left_slack_same, gap_count_same}
use Rattle.chain_step.proofs.WrittenRows.{row_written}
use Rattle.pivot_chain.proofs.ChainRun.{count_before, row_before}
use Rattle.pivot_chain.proofs.chain.step_row.Goals as goal

pub take_steps-requires-clause-some : goal.take_steps-requires-clause-some
take_steps-requires-clause-some c =
    let places = c.row_mut.ensures.places in
    let within = c.requires.within in
    let same = c.requires.same in
    omega arith

pub take_steps-requires-clause-shorter : goal.take_steps-requires-clause-shorter
take_steps-requires-clause-shorter c = λ t lt.
    let within = c.requires.within in
    let same = c.requires.same in
    let places = c.row_mut.ensures.places in
    let count = ap length c.rows_before-before.ensures.before ∙ count_before c.args.rows.now c.args.k (omega arith) in
    let inside : t < c.args.k = omega arith in
    let long = ap (λ (rows : List (List ℤ)). length (tri_row rows t)) c.rows_before-before.ensures.before ∙ (ap length (row_before c.args.rows.now c.args.k t inside)
    ∙ length-tri_row (length c.args.rows.now) c.args.rows.now t c.rows_before-before.ensures.shape (omega arith)) in
    omega arith

pub take_steps-requires-clause-pivots : goal.take_steps-requires-clause-pivots
take_steps-requires-clause-pivots c = λ t lt.
    let within = c.requires.within in
    let count = ap length c.rows_before-before.ensures.before ∙ count_before c.args.rows.now c.args.k (omega arith) in
    let inside : t < c.args.k = omega arith in
    subst IsPivotRow (sym (ap (λ (rows : List (List ℤ)). tri_row rows t) c.rows_before-before.ensures.before ∙ row_before c.args.rows.now c.args.k t inside)) (c.requires.pivots t inside)

pub take_steps-requires-clause-same : goal.take_steps-requires-clause-same
take_steps-requires-clause-same c =
    let same = c.requires.same in
    let counted = c.requires.counted in
    let places = c.row_mut.ensures.places in
    let counts = c.row_mut-2.ensures.places in
    omega arith

pub take_steps-requires-clause-slack : goal.take_steps-requires-clause-slack
take_steps-requires-clause-slack c =
    let rows = c.args.rows.now in
    let k = c.args.k in
    let within = c.requires.within in
    let same = c.requires.same in
    let before = c.rows_before-before.ensures.before in
    let places = c.row_mut.ensures.places in
    let count : length c.rows_before-before.result.0 ≡ k = ap length before ∙ count_before rows k (omega arith) in
    let long : length rows - k ≡ length c.row_mut.result.now = omega arith in
    simp (to_z-of_z, c.ranges.slack)
    (c.requires.slack
    ∙ (left_slack_same rows c.rows_before-before.result.0 (length rows - k) k (λ t lt. sym (ap (λ (r : List (List ℤ)). tri_row r t) before ∙ row_before rows k t lt))
    ∙ ap₂ (left_slack c.rows_before-before.result.0) long (sym count)))

-- the row that was put in its place, whatever was left there before
row_now : (old : List (List ℤ)) (v w from : List ℤ) (k : ℕ) → k < length old → IsTri (length (slice_set old k v)) (slice_set old k v) → length w ≡ length (slice_set old k v) - k → w ≡ from
    → tri_row (slice_set (slice_set old k v) k (refilled (tri_row (slice_set old k v) k) w)) k ≡ from
row_now old v w from k within shape long same = row_written (length (slice_set old k v)) (slice_set old k v) w k shape (let size = length-set old k v in omega arith) long ∙ same

-- the row of the matrix, after its steps
row_stepped : (old : List (List ℤ)) (w row : List ℤ) (k : ℕ) → k < length old → IsTri (length old) old → length w ≡ length row → length row ≡ length old - k
    → tri_row (slice_set old k (refilled (tri_row old k) w)) k ≡ w
row_stepped old w row k within shape kept places = row_written (length old) old w k shape within (kept ∙ places)

-- what the test of the row tells of it
answer_of : (answer : Option ℤ) (row final : List ℤ) → row ≡ final → length row ≤ 64 → at row 0 ≤ℤ pos (2 ^ 61)
    → MatchOption answer (is_stop (step_of row) ≡ false) (λ v. step_of row ≡ stop v) → MatchOption answer (IsPivotRow final) (λ v. step_of final ≡ stop v)
answer_of None row final e few head h = subst IsPivotRow e (record { goes_on = h; few = few; head = head })
answer_of (Some v) row final e few head h = ap step_of (sym e) ∙ h

pub returns-clause-exact : goal.returns-clause-exact
returns-clause-exact c = λ first shape known start.
    let rows = c.args.rows.now in
    let k = c.args.k in
    let n = length rows in
    let within = c.requires.within in
    let same = c.requires.same in
    let before = c.rows_before-before.ensures.before in
    let places = c.row_mut.ensures.places in
    let count : length c.rows_before-before.result.0 ≡ k = ap length before ∙ count_before rows k (omega arith) in
    let fill : k + length c.row_mut.result.now ≡ n = omega arith in
    let few : length c.rows_before-before.result.0 ≤ k = omega arith in
    let none : k - length c.rows_before-before.result.0 ≡ 0 = omega arith in
    let row : c.row.result.now ≡ c.take_steps.new.row = c.row.ensures.value
    ∙ row_stepped c.args.matrix.now c.take_steps.new.row c.row_mut.result.now k (omega arith) c.row_mut.ensures.shape c.take_steps.auto.row places in
    row_now rows _ c.copy_row.new.to c.take_steps.new.row k within c.row_mut-3.ensures.shape (c.copy_row.auto.to ∙ c.row_mut-3.ensures.places) (c.copy_row.ensures ∙ row)
    ∙ (c.take_steps.ensures.exact n k first shape fill few
    (λ t lt. sym (ap (λ (r : List (List ℤ)). tri_row r t) before ∙ (row_before rows k t (omega arith) ∙ known t (omega arith))))
    (sym (c.row_mut.ensures.value ∙ start))
    ∙ ap₂ (λ t j. row_at (matrix_after (over_of c.args.side) t first) j) count none)

pub returns-clause-answer : goal.returns-clause-answer
returns-clause-answer c =
    let rows = c.args.rows.now in
    let k = c.args.k in
    let within = c.requires.within in
    let same = c.requires.same in
    let few = c.requires.few in
    let places = c.row_mut.ensures.places in
    let kept : length c.take_steps.new.row ≡ length c.row_mut.result.now = c.take_steps.auto.row in
    let row : c.row.result.now ≡ c.take_steps.new.row = c.row.ensures.value
    ∙ row_stepped c.args.matrix.now c.take_steps.new.row c.row_mut.result.now k (omega arith) c.row_mut.ensures.shape kept places in
    let last : c.row-2.result.now ≡ c.take_steps.new.row = c.row-2.ensures.value
    ∙ row_now rows _ c.copy_row.new.to c.take_steps.new.row k within c.row_mut-3.ensures.shape (c.copy_row.auto.to ∙ c.row_mut-3.ensures.places) (c.copy_row.ensures ∙ row) in
    let long = ap length last in
    answer_of c.stop_of.result c.row-2.result.now _ c.row-2.ensures.value (omega arith) (subst (λ (r : List ℤ). at r 0 ≤ℤ pos (2 ^ 61)) (sym last) c.take_steps.ensures.head) c.stop_of.ensures

pub returns-clause-gaps : goal.returns-clause-gaps
returns-clause-gaps c = λ m one lt.
    let rows = c.args.rows.now in
    let k = c.args.k in
    let within = c.requires.within in
    let same = c.requires.same in
    let counted = c.requires.counted in
    let before = c.rows_before-before.ensures.before in
    let places = c.row_mut.ensures.places in
    let counts = c.row_mut-2.ensures.places in
    let count : length c.rows_before-before.result.0 ≡ k = ap length before ∙ count_before rows k (omega arith) in
    let long : length c.row_mut.result.now ≡ length rows - k = omega arith in
    ap (λ row. at row m) (row_stepped c.args.gaps.now c.take_steps.new.gaps c.row_mut-2.result.now k (omega arith) c.row_mut-2.ensures.shape c.take_steps.auto.gaps counts)
    ∙ (c.take_steps.ensures.gaps m one (omega arith)
    ∙ (gap_count_same c.rows_before-before.result.0 rows (length c.row_mut.result.now) m (length c.rows_before-before.result.0)
    (λ t less. ap (λ (r : List (List ℤ)). tri_row r t) before ∙ row_before rows k t (omega arith))
    ∙ ap₂ (λ n j. gap_count rows n m j) long count))

pub returns-clause-shape : goal.returns-clause-shape
returns-clause-shape c = c.row-2.ensures.shape
