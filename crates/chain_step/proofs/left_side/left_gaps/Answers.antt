use Rattle.std.proofs.Common.{rules, ◌-◌, ◌≤◌, get_or, pos, sym, ap, arith, to_z, of_z, ℕ, ℤ, ◌≤ℤ◌, FitsSigned}
use Rattle.std.specs.Int.{w128}
use Rattle.std.proofs.lemmas.Int.{ints, to_z-of_z}
use Rattle.chain_step.specs.Step.{gap_at}
use Rattle.chain_step.proofs.Gaps.{zeros}
use Rattle.chain_step.proofs.RowSteps.{dividing_at, nothing_counted}
use Rattle.chain_step.proofs.left_side.left_gaps.Goals as goal

pub returns-then-pivot-column-eq0-clause-value : goal.returns-then-pivot-column-eq0-clause-value
returns-then-pivot-column-eq0-clause-value c =
    let f : FitsSigned w128 (get_or c.args.pivot.now c.args.column (pos 0)) = search rules in
    let none = simp (to_z-of_z, f) at (ap (to_z w128) c.if-pivot-column-eq0.true) in
    sym (zeros (gap_at c.args.pivot.now c.args.column) 1 (c.args.column - 1) (λ j. nothing_counted c.args.pivot.now c.args.column j c.requires.pivot.goes_on none))

pub gaps_in_columns-requires-clause-pivot : goal.gaps_in_columns-requires-clause-pivot
gaps_in_columns-requires-clause-pivot c =
    dividing_at c.args.pivot.now c.args.column c.requires.pivot c.requires.right (λ e. c.if-pivot-column-eq0.false (ap (of_z w128) e))

pub returns-clause-high : goal.returns-clause-high
returns-clause-high c =
    let few = c.requires.pivot.few in
    let inside = c.requires.inside in
    let f : FitsSigned w128 c.gaps_in_columns.result = search rules in
    simp (to_z-of_z, f) (most c.gaps_in_columns.result (c.args.column - 1) (omega arith) c.gaps_in_columns.ensures.high)
  where
    most : (t : ℤ) (y : ℕ) → y ≤ 64 → t ≤ℤ pos y → t ≤ℤ pos 64
    most t y le h = omega (arith, ints)
