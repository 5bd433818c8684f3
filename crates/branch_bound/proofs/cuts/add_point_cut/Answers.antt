use Rattle.std.proofs.Common.{ap, Ok, arith}
use Rattle.branch_bound.proofs.PointLemmas.{adds, points-more, points-none}
use Rattle.branch_bound.proofs.cuts.add_point_cut.Goals as goal

pub add-requires : goal.add-requires
add-requires c = let few = c.requires.cuts.few in let fits = c.candidates-bounds.ensures.bounds.unknowns in let inside = c.requires.unknown in omega (arith, few, fits, inside)

pub returns-in_ok-_is_new-in-Some : goal.returns-in_ok-_is_new-in-Some
returns-in_ok-_is_new-in-Some c =
    let unit = rw c.in-Some.is at c.in_ok-cut.ensures.unit in
    points-more c.args.network.now c.args.pool.now c.add.new.self c.args.unknown c.in-Some.cut c.candidates-bounds.ensures.bounds c.requires.cuts unit
    (adds c.args.pool.now c.add.new.self c.in-Some.cut c.in_ok-_is_new-in-Some._is_new (λ e. c.in_ok-_is_new-in-Some.ensures.there (ap Ok e)) (λ e. c.in_ok-_is_new-in-Some.ensures.added (ap Ok e)) (λ e. c.in_ok-_is_new-in-Some.ensures.kept (ap Ok e)))

pub returns-in-None : goal.returns-in-None
returns-in-None c = points-none c.args.network.now c.args.pool.now c.args.unknown c.requires.cuts (c.in_ok-cut.ensures.none (ap Ok c.in-None.is))
