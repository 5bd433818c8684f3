use Rattle.std.specs.Prelude.{FitsSigned, neg_ℤ}
use Rattle.std.specs.Int.{w128}
use Rattle.std.proofs.lemmas.Int.{to_z-of_z}
use Rattle.std.proofs.Common.{rules, ap, ◌∙◌}
use Rattle.geo_base.proofs.Rounding.{ceil_of-IsCeiling}
use Rattle.geo_base.specs.Division.{ceil_of, floor_of}
use Rattle.geo_base.proofs.division.ceil_div.Goals as goal

pub returns-clause-value : goal.returns-clause-value
unfolding ceil_of
returns-clause-value c =
    let turned_fits : FitsSigned w128 c.minus.result = search rules in
    let floor_fits : FitsSigned w128 c.floor_div.result = search rules in
    let fits : FitsSigned w128 c.minus-2.result = search rules in
    let turned = simp (to_z-of_z, c.ranges.n) at c.minus.ensures in
    let floor = simp (to_z-of_z, turned_fits, c.ranges.d) at c.floor_div.ensures.value in
    let value = simp (to_z-of_z, floor_fits) at c.minus-2.ensures in
    simp (to_z-of_z, fits) (value ∙ ap neg_ℤ (floor ∙ ap (λ t. floor_of t c.args.d) turned))

pub returns-clause-ceiling : goal.returns-clause-ceiling
returns-clause-ceiling c = rw (returns-clause-value c) (ceil_of-IsCeiling c.args.n c.args.d c.requires.positive)
