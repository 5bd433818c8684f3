use Rattle.std.proofs.Common.{rules, FitsSigned, ap, ◌∙◌}
use mir.Syntax.{w128}
use Rattle.std.proofs.lemmas.Int.{to_z-of_z}
use Rattle.geo_model.specs.Limit.{SquareOf}
use Rattle.geo_model.proofs.SumSteps.{square_step}
use Rattle.geo_model.proofs.forms.square_load.Goals as goal

pub overflow_mul-result : goal.overflow_mul-result
overflow_mul-result c =
    let w : FitsSigned w128 c.square.inside.beta = search rules in
    let s = square_step c.args.square.now c.args.x.now c.as_slice.result.now c.square.inside.beta c.form_at-form.result c.requires.low c.requires.total c.entries-bounds.ensures.narrow (c.as_slice.ensures.value ∙ ap (λ (v : SquareOf). v.entries) c.square.view_is) (ap (λ (v : SquareOf). v.beta) c.square.view_is) w c.form_at-form.ensures.value c.form_at-form.ensures.size in
    let d = s.numbers.form_fits in
    simp to_z-of_z s.numbers.square

pub overflow_mul-result-2 : goal.overflow_mul-result-2
overflow_mul-result-2 c =
    let w : FitsSigned w128 c.square.inside.beta = search rules in
    let s = square_step c.args.square.now c.args.x.now c.as_slice.result.now c.square.inside.beta c.form_at-form.result c.requires.low c.requires.total c.entries-bounds.ensures.narrow (c.as_slice.ensures.value ∙ ap (λ (v : SquareOf). v.entries) c.square.view_is) (ap (λ (v : SquareOf). v.beta) c.square.view_is) w c.form_at-form.ensures.value c.form_at-form.ensures.size in
    let d = s.numbers.form_fits in
    let e = s.numbers.square in
    simp to_z-of_z s.numbers.whole

pub returns-clause-value : goal.returns-clause-value
returns-clause-value c =
    let w : FitsSigned w128 c.square.inside.beta = search rules in
    let s = square_step c.args.square.now c.args.x.now c.as_slice.result.now c.square.inside.beta c.form_at-form.result c.requires.low c.requires.total c.entries-bounds.ensures.narrow (c.as_slice.ensures.value ∙ ap (λ (v : SquareOf). v.entries) c.square.view_is) (ap (λ (v : SquareOf). v.beta) c.square.view_is) w c.form_at-form.ensures.value c.form_at-form.ensures.size in
    let d = s.numbers.form_fits in
    let e = s.numbers.square in
    let f = s.numbers.whole in
    simp to_z-of_z s.is

pub returns-clause-size : goal.returns-clause-size
returns-clause-size c =
    let w : FitsSigned w128 c.square.inside.beta = search rules in
    let s = square_step c.args.square.now c.args.x.now c.as_slice.result.now c.square.inside.beta c.form_at-form.result c.requires.low c.requires.total c.entries-bounds.ensures.narrow (c.as_slice.ensures.value ∙ ap (λ (v : SquareOf). v.entries) c.square.view_is) (ap (λ (v : SquareOf). v.beta) c.square.view_is) w c.form_at-form.ensures.value c.form_at-form.ensures.size in
    let d = s.numbers.form_fits in
    let e = s.numbers.square in
    let f = s.numbers.whole in
    simp to_z-of_z s.size
