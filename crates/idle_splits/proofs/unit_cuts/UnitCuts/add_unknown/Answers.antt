use Rattle.idle_splits.proofs.Kept.{has_unit_on_ok}
use Rattle.idle_splits.proofs.unit_cuts.UnitCuts.add_unknown.Goals as goal

pub returns-in-Some-clause-has : goal.returns-in-Some-clause-has
returns-in-Some-clause-has c =
    let number = rw c.in-Some.is at c.in_ok-cut.ensures.number in
    let unit = rw c.in-Some.is at c.in_ok-cut.ensures.unit in
    has_unit_on_ok c.args.network.now c.args.number c.args.unknown c.in-Some.cut c.keep.new.self.pool c.keep.result number unit c.keep.ensures.has
