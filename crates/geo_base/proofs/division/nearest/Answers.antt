use Rattle.std.specs.Prelude.{FitsSigned, ℤ, pos, ◌*ℤ◌, ◌+ℤ◌, ◌-ℤ◌, ◌≤ℤ◌, ◌<ℤ◌, unsigned_abs, ◌≤◌, ◌^◌}
use Rattle.std.specs.Int.{w128}
use Rattle.std.proofs.lemmas.Int.{to_z-of_z, ints}
use Rattle.std.proofs.Common.{rules, arith, sym, ◌∙◌}
use Rattle.geo_base.proofs.Rounding.{nearest_of-IsNearest, nearest_of-negative, nearest_of-not_negative}
use Rattle.geo_base.proofs.division.nearest.Goals as goal

double_fits : (n : ℤ) → unsigned_abs n ≤ 2 ^ 125 → FitsSigned w128 (pos 2 *ℤ n)
double_fits n size = omega (arith, ints)

sum_fits : (n d : ℤ) → unsigned_abs n ≤ 2 ^ 125 → pos 0 <ℤ d → d ≤ℤ pos (2 ^ 125) → FitsSigned w128 (pos 2 *ℤ n +ℤ d)
sum_fits n d size some at_most = omega (arith, ints)

difference_fits : (n d : ℤ) → unsigned_abs n ≤ 2 ^ 125 → pos 0 <ℤ d → d ≤ℤ pos (2 ^ 125) → FitsSigned w128 (pos 2 *ℤ n -ℤ d)
difference_fits n d size some at_most = omega (arith, ints)

divisor_fits : (d : ℤ) → pos 0 <ℤ d → d ≤ℤ pos (2 ^ 125) → FitsSigned w128 (pos 2 *ℤ d)
divisor_fits d some at_most = omega (arith, ints)

pub returns-then-n-lt0-clause-value : goal.returns-then-n-lt0-clause-value
returns-then-n-lt0-clause-value c =
    let below : c.args.n <ℤ pos 0 = search rules in
    let double = double_fits c.args.n c.requires.size in
    let number = difference_fits c.args.n c.args.d c.requires.size c.requires.positive c.requires.divisor_size in
    let divisor = divisor_fits c.args.d c.requires.positive c.requires.divisor_size in
    let fits : FitsSigned w128 c.ceil_div.result = search rules in
    let value = simp (to_z-of_z, c.ranges.n, c.ranges.d, double, number, divisor) at c.ceil_div.ensures.value in
    simp (to_z-of_z, fits) (value ∙ sym (nearest_of-negative c.args.n c.args.d below))

pub returns-then-n-lt0-clause-nearest : goal.returns-then-n-lt0-clause-nearest
returns-then-n-lt0-clause-nearest c = rw (returns-then-n-lt0-clause-value c) (nearest_of-IsNearest c.args.n c.args.d c.requires.positive)

pub returns-else-n-lt0-clause-value : goal.returns-else-n-lt0-clause-value
returns-else-n-lt0-clause-value c =
    let low : pos 0 ≤ℤ c.args.n = search rules in
    let double = double_fits c.args.n c.requires.size in
    let number = sum_fits c.args.n c.args.d c.requires.size c.requires.positive c.requires.divisor_size in
    let divisor = divisor_fits c.args.d c.requires.positive c.requires.divisor_size in
    let fits : FitsSigned w128 c.floor_div.result = search rules in
    let value = simp (to_z-of_z, c.ranges.n, c.ranges.d, double, number, divisor) at c.floor_div.ensures.value in
    simp (to_z-of_z, fits) (value ∙ sym (nearest_of-not_negative c.args.n c.args.d low))

pub returns-else-n-lt0-clause-nearest : goal.returns-else-n-lt0-clause-nearest
returns-else-n-lt0-clause-nearest c = rw (returns-else-n-lt0-clause-value c) (nearest_of-IsNearest c.args.n c.args.d c.requires.positive)
