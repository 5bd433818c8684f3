use Rattle.std.specs.Prelude.{FitsSigned}
use Rattle.std.specs.Int.{w128}
use Rattle.std.proofs.lemmas.Int.{to_z-of_z}
use Rattle.std.proofs.Common.{rules}
use Rattle.geo_base.proofs.Rounding.{floor_of-IsFloor}
use Rattle.geo_base.specs.Division.{floor_of}
use Rattle.geo_base.proofs.division.floor_div.Goals as goal

pub returns-clause-value : goal.returns-clause-value
unfolding floor_of
returns-clause-value c =
    let fits : FitsSigned w128 c.div_euclid.result = search rules in
    let value = simp (to_z-of_z, c.ranges.n, c.ranges.d) at c.div_euclid.ensures in
    simp (to_z-of_z, fits) value

pub returns-clause-floor : goal.returns-clause-floor
returns-clause-floor c = rw (returns-clause-value c) (floor_of-IsFloor c.args.n c.args.d c.requires.positive)
