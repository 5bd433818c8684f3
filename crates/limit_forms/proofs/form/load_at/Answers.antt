use Rattle.std.proofs.Common.{rules, ◌+◌, ◌*◌, ◌^◌, ◌+ℤ◌, FitsSigned, to_z, arith}
use mir.Syntax.{w128}
use Rattle.std.specs.Prelude.{unsigned_abs}
use Rattle.std.proofs.lemmas.Int.{to_z-of_z, fits_signed_from_abs}
use Rattle.std.proofs.lemmas.List.Sums.{sum_by-take-le}
use Rattle.geo_model.specs.Row.{total_size}
use Rattle.geo_model.specs.Limit.{SquareOf}
use Rattle.limit_forms.proofs.FormSteps.{load_step, load_size_step}
use Rattle.limit_forms.proofs.form.load_at.Goals as goal

pub loop-square-preserved : goal.loop-square-preserved
loop-square-preserved c =
    let sum = to_z w128 c.loop-square.sum-bits in
    let value = load_step c.args.squares.now c.loop-square.square-index c.args.i c.args.j c.square-item.result sum c.square_entry-sum.result c.loop-square-test.true c.square-item.is c.loop-square.invariant.value c.square_entry-sum.ensures.value in
    let size = load_size_step c.args.squares.now c.loop-square.square-index c.square-item.result sum c.square_entry-sum.result c.loop-square-test.true c.square-item.is c.loop-square.invariant.size c.square_entry-sum.ensures.size in
    let within = sum_by-take-le (λ (square : SquareOf). unsigned_abs square.beta * total_size square.entries ^ 2) c.args.squares.now (c.loop-square.square-index + 1) in
    let total = c.requires.total in
    let part : FitsSigned w128 c.square_entry-sum.result = search rules in
    let whole : FitsSigned w128 (sum +ℤ c.square_entry-sum.result) = fits_signed_from_abs w128 (sum +ℤ c.square_entry-sum.result) (omega arith) in
    simp to_z-of_z (record { value = value; size = size })
