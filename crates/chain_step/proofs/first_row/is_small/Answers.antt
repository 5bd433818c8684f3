use Rattle.std.proofs.Common.{◌^◌, ◌<◌, arith, unsigned_abs, FitsSigned}
use Rattle.std.specs.Int.{w128}
use Rattle.std.proofs.lemmas.Int.{to_z-of_z}
use Rattle.whole_algebra.proofs.Refutation.{false_is_not_true}
use Rattle.chain_step.proofs.RowLaws.{too_large, small_test}
use Rattle.chain_step.proofs.first_row.is_small.Goals as goal

pub returns-then-unsigned_abs : goal.returns-then-unsigned_abs
returns-then-unsigned_abs c =
    let v = simp (to_z-of_z, c.ranges.c) at c.unsigned_abs.ensures.value in
    let large : 2 ^ 61 < unsigned_abs c.args.c = (let t = c.if-unsigned_abs.true in omega arith) in
    (λ e. absurd (false_is_not_true e), λ h. absurd (too_large c.args.c c.args.head large c.requires.high h))

pub returns : goal.returns
returns c =
    let f : FitsSigned w128 c.product.result = record { sfits = c.product.type_inv } in
    let g : FitsSigned w128 c.product-2.result = record { sfits = c.product-2.type_inv } in
    let v = simp (to_z-of_z, c.ranges.c) at c.product.ensures.value in
    let w = simp (to_z-of_z, c.ranges.head) at c.product-2.ensures.value in
    simp (to_z-of_z, f, g) (small_test c.product.result c.product-2.result _ _ v w)
