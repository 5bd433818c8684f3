use Rattle.std.proofs.Common.{pos, arith, ◌*ℤ◌, ◌-ℤ◌, ap₂, ap}
use Rattle.std.proofs.lemmas.Int.{to_z-of_z}
use Rattle.limit_forms.proofs.FormSteps.{entry_fits}
use Rattle.limit_forms.proofs.form.form_entry.Goals as goal

pub overflow_mul-result : goal.overflow_mul-result
overflow_mul-result c =
    let e = entry_fits c.args.network.now c.args.normal.now.plan c.args.alpha (pos 0) c.entry.result c.args.squares.now c.args.i c.args.j c.candidates-bounds.ensures.bounds c.requires.limit (c.entry.ensures c.args.network.now c.requires.normal) (omega arith) in
    let a = e.factor_narrow in
    let b = e.factor in
    let d = e.number in
    simp to_z-of_z e.product

pub overflow_sub-result : goal.overflow_sub-result
overflow_sub-result c =
    let e = entry_fits c.args.network.now c.args.normal.now.plan c.args.alpha c.load_at.result c.entry.result c.args.squares.now c.args.i c.args.j c.candidates-bounds.ensures.bounds c.requires.limit (c.entry.ensures c.args.network.now c.requires.normal) c.load_at.ensures.size in
    let a = e.factor_narrow in
    let b = e.factor in
    let d = e.number in
    let f = e.product in
    let g = e.load in
    simp to_z-of_z e.difference

pub returns : goal.returns
returns c =
    let number = c.entry.ensures c.args.network.now c.requires.normal in
    let e = entry_fits c.args.network.now c.args.normal.now.plan c.args.alpha c.load_at.result c.entry.result c.args.squares.now c.args.i c.args.j c.candidates-bounds.ensures.bounds c.requires.limit number c.load_at.ensures.size in
    let a = e.factor_narrow in
    let b = e.factor in
    let d = e.number in
    let f = e.product in
    let g = e.load in
    let h = e.difference in
    simp to_z-of_z (ap₂ (λ s t. s -ℤ t) (ap (λ t. c.args.alpha *ℤ t) number) c.load_at.ensures.value)
