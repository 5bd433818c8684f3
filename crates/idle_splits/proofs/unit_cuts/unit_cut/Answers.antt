use Rattle.idle_splits.proofs.Kept.{made_unit, none_loaded}
use Rattle.idle_splits.proofs.unit_cuts.unit_cut.Goals as goal

pub returns-then-is_loaded-clause-unit : goal.returns-then-is_loaded-clause-unit
returns-then-is_loaded-clause-unit c =
    made_unit c.args.network.now c.args.number c.args.unknown _ c.in_ok-cut_of.field-0 c.is_loaded.result c.requires.number c.requires.unknown c.in_ok-x.ensures c.is_loaded.ensures c.if-is_loaded.true c.in_ok-cut_of.ensures

pub returns-clause-none : goal.returns-clause-none
returns-clause-none c = λ e. none_loaded c.args.network.now c.args.number c.args.unknown _ c.is_loaded.result c.in_ok-x.ensures c.is_loaded.ensures c.if-is_loaded.false
