use Rattle.std.proofs.Common.{rules, ◌≡◌, List, length, take, FitsSigned, to_z, ap, ◌∙◌, arith}
use mir.Syntax.{w128}
use Rattle.std.proofs.lemmas.Int.{to_z-of_z}
use Rattle.std.proofs.lemmas.List.{take_all}
use Rattle.whole_algebra.specs.Matrices.{at}
use Rattle.geo_model.specs.Limit.{SquareOf, LimitOf, load}
use Rattle.geo_model.proofs.SumSteps.{load_step, load_take-nonneg, load_take-small, limit_of, same_limit}
use Rattle.geo_model.proofs.forms.load.Goals as goal

pub overflow_add-sum : goal.overflow_add-sum
overflow_add-sum c =
    let part : FitsSigned w128 c.square_load-sum.result = search rules in
    let squares : c.as_slice-squares.result.now ≡ c.index-limits-limit.result.squares = c.as_slice-squares.ensures.value ∙ ap (λ (v : LimitOf). v.squares) c.form.view_is in
    let bounds = limit_of c.args.network.now c.limits-limits.result.now c.args.limit c.index-limits-limit.result c.as_slice-squares.result.now c.limits-limits.ensures.bounds c.limits-limits.ensures.value c.requires.limit c.index-limits-limit.is squares in
    let s = load_step c.loop-square.square-index (length c.args.network.now.unknowns) c.args.network.now.candidates c.index-limits-limit.result.alpha c.as_slice-squares.result.now (at c.args.x.now) c.square-item.result (to_z w128 c.loop-square.sum-bits) c.square_load-sum.result
    bounds c.entries-bounds.ensures.narrow c.loop-square-test.true c.square-item.is c.loop-square.invariant c.square_load-sum.ensures.value in
    simp to_z-of_z s.whole

pub loop-square-preserved : goal.loop-square-preserved
loop-square-preserved c =
    let part : FitsSigned w128 c.square_load-sum.result = search rules in
    let squares : c.as_slice-squares.result.now ≡ c.index-limits-limit.result.squares = c.as_slice-squares.ensures.value ∙ ap (λ (v : LimitOf). v.squares) c.form.view_is in
    let bounds = limit_of c.args.network.now c.limits-limits.result.now c.args.limit c.index-limits-limit.result c.as_slice-squares.result.now c.limits-limits.ensures.bounds c.limits-limits.ensures.value c.requires.limit c.index-limits-limit.is squares in
    let s = load_step c.loop-square.square-index (length c.args.network.now.unknowns) c.args.network.now.candidates c.index-limits-limit.result.alpha c.as_slice-squares.result.now (at c.args.x.now) c.square-item.result (to_z w128 c.loop-square.sum-bits) c.square_load-sum.result
    bounds c.entries-bounds.ensures.narrow c.loop-square-test.true c.square-item.is c.loop-square.invariant c.square_load-sum.ensures.value in
    let whole = s.whole in
    simp to_z-of_z s.is

pub returns-clause-value : goal.returns-clause-value
returns-clause-value c l found =
    let squares : c.as_slice-squares.result.now ≡ c.index-limits-limit.result.squares = c.as_slice-squares.ensures.value ∙ ap (λ (v : LimitOf). v.squares) c.form.view_is in
    let same = same_limit c.args.network.now c.limits-limits.result.now c.args.limit c.index-limits-limit.result l c.limits-limits.ensures.value c.index-limits-limit.is found in
    let all : take c.loop-square.square-index c.as_slice-squares.result.now ≡ c.as_slice-squares.result.now = take_all c.loop-square.square-index c.as_slice-squares.result.now (omega arith) in
    c.loop-square.invariant ∙ ap (λ (s : List SquareOf). load s (at c.args.x.now)) (all ∙ squares ∙ ap (λ (v : LimitOf). v.squares) same)

pub returns-clause-low : goal.returns-clause-low
returns-clause-low c =
    let squares : c.as_slice-squares.result.now ≡ c.index-limits-limit.result.squares = c.as_slice-squares.ensures.value ∙ ap (λ (v : LimitOf). v.squares) c.form.view_is in
    let bounds = limit_of c.args.network.now c.limits-limits.result.now c.args.limit c.index-limits-limit.result c.as_slice-squares.result.now c.limits-limits.ensures.bounds c.limits-limits.ensures.value c.requires.limit c.index-limits-limit.is squares in
    rw c.loop-square.invariant (load_take-nonneg c.loop-square.square-index c.as_slice-squares.result.now (at c.args.x.now) bounds.beta_low)

pub returns-clause-size : goal.returns-clause-size
returns-clause-size c =
    let squares : c.as_slice-squares.result.now ≡ c.index-limits-limit.result.squares = c.as_slice-squares.ensures.value ∙ ap (λ (v : LimitOf). v.squares) c.form.view_is in
    let bounds = limit_of c.args.network.now c.limits-limits.result.now c.args.limit c.index-limits-limit.result c.as_slice-squares.result.now c.limits-limits.ensures.bounds c.limits-limits.ensures.value c.requires.limit c.index-limits-limit.is squares in
    rw c.loop-square.invariant (load_take-small c.loop-square.square-index (length c.args.network.now.unknowns) c.args.network.now.candidates c.index-limits-limit.result.alpha c.as_slice-squares.result.now (at c.args.x.now) bounds c.entries-bounds.ensures.narrow)
