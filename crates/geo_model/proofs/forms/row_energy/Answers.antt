use Rattle.std.proofs.lemmas.Int.{to_z-of_z}
use Rattle.geo_model.proofs.SumSteps.{row_step}
use Rattle.geo_model.proofs.forms.row_energy.Goals as goal

pub overflow_mul-result-2 : goal.overflow_mul-result-2
overflow_mul-result-2 c =
    let s = row_step c.args.row.now c.args.x.now c.entries.result.now c.weight.result c.form_at-form.result c.requires.bounds c.entries-bounds.ensures.narrow c.entries.ensures c.weight.ensures c.form_at-form.ensures.value c.form_at-form.ensures.size in
    let a = s.weight_narrow in
    let b = s.numbers.weight_fits in
    let d = s.numbers.form_fits in
    let e = s.numbers.square in
    simp to_z-of_z s.numbers.whole

pub returns-clause-value : goal.returns-clause-value
returns-clause-value c =
    let s = row_step c.args.row.now c.args.x.now c.entries.result.now c.weight.result c.form_at-form.result c.requires.bounds c.entries-bounds.ensures.narrow c.entries.ensures c.weight.ensures c.form_at-form.ensures.value c.form_at-form.ensures.size in
    let a = s.weight_narrow in
    let b = s.numbers.weight_fits in
    let d = s.numbers.form_fits in
    let e = s.numbers.square in
    let f = s.numbers.whole in
    simp to_z-of_z s.is

pub returns-clause-size : goal.returns-clause-size
returns-clause-size c =
    let s = row_step c.args.row.now c.args.x.now c.entries.result.now c.weight.result c.form_at-form.result c.requires.bounds c.entries-bounds.ensures.narrow c.entries.ensures c.weight.ensures c.form_at-form.ensures.value c.form_at-form.ensures.size in
    let a = s.weight_narrow in
    let b = s.numbers.weight_fits in
    let d = s.numbers.form_fits in
    let e = s.numbers.square in
    let f = s.numbers.whole in
    simp to_z-of_z s.size
