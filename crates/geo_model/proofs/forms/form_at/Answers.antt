use Rattle.std.proofs.Common.{ℤ, pos, List, get_or, to_z, ap}
use mir.Syntax.{w128}
use Rattle.std.proofs.lemmas.Int.{to_z-of_z}
use Rattle.whole_algebra.specs.Matrices.{at}
use Rattle.geo_model.proofs.SumSteps.{form_step, form_take-size}
use Rattle.geo_model.proofs.forms.form_at.Goals as goal

pub overflow_add-sum : goal.overflow_add-sum
overflow_add-sum c =
    let column = (get_or c.args.entries.now c.loop-column.column-index (0, pos 0)).0 in
    let s = form_step c.args.entries.now c.args.x.now c.loop-column.column-index (to_z w128 c.loop-column.sum-bits) (at c.entries-moves.result.now column) (0, pos 0) c.loop-column-test.true c.requires.total c.entries-moves.ensures.narrow c.loop-column.invariant (ap (λ (xs : List ℤ). at xs column) c.entries-moves.ensures.value) in
    let a = s.narrow in
    let b = s.wide in
    let d = s.move_narrow in
    let e = s.move_wide in
    let f = s.product in
    simp to_z-of_z s.whole

pub loop-column-preserved : goal.loop-column-preserved
loop-column-preserved c =
    let column = (get_or c.args.entries.now c.loop-column.column-index (0, pos 0)).0 in
    let s = form_step c.args.entries.now c.args.x.now c.loop-column.column-index (to_z w128 c.loop-column.sum-bits) (at c.entries-moves.result.now column) (0, pos 0) c.loop-column-test.true c.requires.total c.entries-moves.ensures.narrow c.loop-column.invariant (ap (λ (xs : List ℤ). at xs column) c.entries-moves.ensures.value) in
    let a = s.narrow in
    let b = s.wide in
    let d = s.move_narrow in
    let e = s.move_wide in
    let f = s.product in
    let g = s.whole in
    simp to_z-of_z s.is

pub returns-clause-size : goal.returns-clause-size
returns-clause-size c =
    rw c.loop-column.invariant (form_take-size c.args.entries.now c.args.x.now c.loop-column.column-index c.entries-moves.ensures.narrow)
