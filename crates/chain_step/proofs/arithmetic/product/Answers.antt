use Rattle.std.proofs.Common.{◌*ℤ◌, ◌^◌, arith, refl, FitsSigned}
use Rattle.std.specs.Int.{w128}
use Rattle.std.proofs.lemmas.Int.{to_z-of_z, fits_signed_mul}
use Rattle.chain_step.proofs.Products.{product_size}
use Rattle.chain_step.proofs.arithmetic.product.Goals as goal

pub returns-clause-value : goal.returns-clause-value
returns-clause-value c =
    let f : FitsSigned w128 (c.args.p *ℤ c.args.q) = fits_signed_mul w128 c.args.p c.args.q (2 ^ 62) (2 ^ 62) c.requires.p c.requires.q (omega arith) in
    simp (to_z-of_z, f, c.ranges.p, c.ranges.q) refl

pub returns-clause-size : goal.returns-clause-size
returns-clause-size c =
    let f : FitsSigned w128 (c.args.p *ℤ c.args.q) = fits_signed_mul w128 c.args.p c.args.q (2 ^ 62) (2 ^ 62) c.requires.p c.requires.q (omega arith) in
    simp (to_z-of_z, f, c.ranges.p, c.ranges.q) (product_size c.args.p c.args.q c.requires.p c.requires.q)
