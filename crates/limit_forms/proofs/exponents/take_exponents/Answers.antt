use Rattle.std.proofs.Common.{rules, ◌≡◌, ℕ, List, ◌+◌, ◌<◌, ◌++◌, [], ◌∷◌, ℤ, get_or, pos, length, take, set, map, w32, FitsSigned, ap₂, sym, ◌∙◌, arith}
use Rattle.std.proofs.lemmas.Int.{to_z-of_z}
use Rattle.limit_forms.proofs.GridSteps.{exponent_written}
use Rattle.limit_forms.proofs.exponents.take_exponents.Goals as goal

pub loop-unknown-preserved : goal.loop-unknown-preserved
loop-unknown-preserved c =
    let a = c.ranges.alpha in
    let same = simp to_z-of_z at c.exponent_from.ensures in
    let so_far = simp to_z-of_z at c.loop-unknown.invariant in
    let fits : FitsSigned w32 c.exponent_from.result = search rules in
    simp to_z-of_z (exponent_written c.args.network.now c.args.alpha c.exponent_from.result c.loop-unknown.exponents c.loop-unknown.unknown (omega arith) so_far same)
