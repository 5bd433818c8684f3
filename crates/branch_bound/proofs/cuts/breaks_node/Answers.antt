use Rattle.std.proofs.Common.{subst, sym}
use Rattle.cut_pool.specs.Cut.{CutOf}
use Rattle.bound_log.specs.CutText.{text_of_cut}
use Rattle.bound_log.specs.LogTree.{IsBrokenBy}
use Rattle.branch_bound.specs.Cuts.{IsCutFor}
use Rattle.branch_bound.proofs.CutLemmas.{cut_breaks}
use Rattle.branch_bound.proofs.cuts.breaks_node.Goals as goal

pub returns : goal.returns
returns c = λ broken.
    let seen : CutOf = record { limit = c.cut.inside.limit; x = c.cut.inside.x; coefficients = c.cut.inside.coefficients.items; bound = c.cut.inside.bound } in
    let is : IsCutFor c.args.network.now seen = subst (λ cut. IsCutFor c.args.network.now cut) (sym c.cut.view_is) c.requires.cut in
    subst (λ cut. IsBrokenBy c.args.network.now c.args.node.now (text_of_cut cut)) c.cut.view_is
    (cut_breaks c.args.network.now c.args.node.now seen c.is_in_force.result c.breaks.result is c.entries-bounds.ensures.narrow c.is_in_force.ensures c.if-not-is_in_force.false c.breaks.ensures broken)
