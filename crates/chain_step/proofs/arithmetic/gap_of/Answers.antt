use Rattle.std.proofs.Common.{◌*ℤ◌, sym, ap, FitsSigned, to_z, of_z}
use Rattle.std.specs.Int.{w128}
use Rattle.std.proofs.lemmas.Int.{to_z-of_z}
use Rattle.chain_step.proofs.Products.{in_range}
use Rattle.chain_step.proofs.Quotients.{product_near, near_size, whole_gap, some_gap}
use Rattle.chain_step.proofs.arithmetic.gap_of.Goals as goal

pub overflow_mul-floor : goal.overflow_mul-floor
overflow_mul-floor c =
    let near = product_near c.args.number c.args.a c.args.floor c.requires.above c.requires.floor in
    let h : FitsSigned w128 (c.args.floor *ℤ c.args.a) = in_range (c.args.floor *ℤ c.args.a) (near_size (c.args.floor *ℤ c.args.a) c.args.number c.args.a c.requires.number c.requires.a near.0 near.1) in
    simp (to_z-of_z, c.ranges.floor, c.ranges.a) h

pub returns-then-floor-a-clause-value : goal.returns-then-floor-a-clause-value
returns-then-floor-a-clause-value c =
    let near = product_near c.args.number c.args.a c.args.floor c.requires.above c.requires.floor in
    let h : FitsSigned w128 (c.args.floor *ℤ c.args.a) = in_range (c.args.floor *ℤ c.args.a) (near_size (c.args.floor *ℤ c.args.a) c.args.number c.args.a c.requires.number c.requires.a near.0 near.1) in
    let whole = simp (to_z-of_z, h, c.ranges.floor, c.ranges.a, c.ranges.number) at (ap (to_z w128) c.if-floor-a.true) in
    sym (whole_gap c.args.number c.args.a c.args.floor c.requires.above c.requires.floor whole)

pub returns-else-floor-a-clause-value : goal.returns-else-floor-a-clause-value
returns-else-floor-a-clause-value c =
    let near = product_near c.args.number c.args.a c.args.floor c.requires.above c.requires.floor in
    let h : FitsSigned w128 (c.args.floor *ℤ c.args.a) = in_range (c.args.floor *ℤ c.args.a) (near_size (c.args.floor *ℤ c.args.a) c.args.number c.args.a c.requires.number c.requires.a near.0 near.1) in
    let apart = simp (to_z-of_z, c.ranges.floor, c.ranges.a) at c.if-floor-a.false in
    sym (some_gap c.args.number c.args.a c.args.floor c.requires.above c.requires.floor (λ e. apart (ap (of_z w128) e)))
