use Rattle.std.proofs.Common.{◌+◌, ap₂, ◌∙◌}
use Rattle.std.proofs.lemmas.Int.{to_z-of_z}
use Rattle.coefficient_round.specs.Coefficient.{square}
use Rattle.coefficient_round.proofs.line.length_squared.Goals as goal

pub returns : goal.returns
returns c =
    let x = simp (to_z-of_z, c.ranges.dx) at c.unsigned_abs.ensures.value in
    let y = simp (to_z-of_z, c.ranges.dy) at c.unsigned_abs-2.ensures.value in
    ap₂ (λ m n. square m + square n) (c.from-x.ensures ∙ x) (c.from-y.ensures ∙ y)
