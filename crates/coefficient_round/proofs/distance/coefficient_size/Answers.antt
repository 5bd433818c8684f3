use Rattle.std.proofs.Common.{◌+◌, ◌*◌, ◌/◌, refl, sym, arith}
use Rattle.coefficient_round.specs.Coefficient.{coefficient_scale, square}
use Rattle.coefficient_round.proofs.Ratio.{IsHalfRoot, half_root-reached, half_root-next, half_root-size, greatest_reached-is}
use Rattle.coefficient_round.proofs.distance.coefficient_size.Goals as goal

root_of : (c : goal.After-root_floor) → IsHalfRoot (4 * square coefficient_scale * square c.args.part) c.args.length_squared c.root_floor.result ((c.root_floor.result + 1) / 2)
root_of c = record { some = c.requires.some; root = c.root_floor.ensures.root.reached; next_root = c.root_floor.ensures.root.next_above; half = refl }

pub returns-clause-size : goal.returns-clause-size
returns-clause-size c = half_root-size _ c.args.length_squared c.root_floor.result _ (root_of c) (omega (arith, c.requires.within))

pub returns-clause-value : goal.returns-clause-value
returns-clause-value c =
    sym (greatest_reached-is c.args.part c.args.length_squared coefficient_scale ((c.root_floor.result + 1) / 2) (returns-clause-size c)
    (half_root-reached _ c.args.length_squared c.root_floor.result _ (root_of c))
    (half_root-next _ c.args.length_squared c.root_floor.result _ (root_of c)))

pub returns-clause-reached : goal.returns-clause-reached
returns-clause-reached c = half_root-reached _ c.args.length_squared c.root_floor.result _ (root_of c)

pub returns-clause-next_above : goal.returns-clause-next_above
returns-clause-next_above c = half_root-next _ c.args.length_squared c.root_floor.result _ (root_of c)
