use Rattle.std.proofs.Common.{ap, Ok, arith, length, ◌∙◌}
use Rattle.branch_bound.proofs.CutLemmas.{is_cut_for}
use Rattle.branch_bound.proofs.PointLemmas.{adds, search_pool-adds, unit_move_long}
use Rattle.branch_bound.proofs.cuts.add_unit_cut.Goals as goal

pub cut_of-requires-clause-displacement : goal.cut_of-requires-clause-displacement
cut_of-requires-clause-displacement c = ap length c.in_ok-x.ensures ∙ unit_move_long (length c.args.network.now.unknowns) c.args.unknown

pub returns : goal.returns
returns c =
    let long = ap length c.in_ok-x.ensures ∙ unit_move_long (length c.args.network.now.unknowns) c.args.unknown in
    search_pool-adds c.args.network.now c.args.pool.now c.add.new.self c.in_ok-cut.cut c.requires.cuts
    (is_cut_for c.args.network.now c.args.limit c.in_ok-x.x c.in_ok-cut.cut c.requires.limit long c.entries-bounds.ensures.narrow c.in_ok-cut.ensures)
    (adds c.args.pool.now c.add.new.self c.in_ok-cut.cut c.in_ok-_is_new._is_new (λ e. c.in_ok-_is_new.ensures.there (ap Ok e)) (λ e. c.in_ok-_is_new.ensures.added (ap Ok e)) (λ e. c.in_ok-_is_new.ensures.kept (ap Ok e)))
    (omega arith)
