use Rattle.std.proofs.Common.{◌<◌, arith}
use Rattle.std.proofs.lemmas.Option.{slice_get_within}
use Rattle.dual_ascent.proofs.naming.first_named.Goals as goal

pub returns-clause-none : goal.returns-clause-none
returns-clause-none c = λ k is.
    let inside : k < c.loop-cut.cut = omega (arith, slice_get_within c.args.pool.now k is.cut is.among, c.len-cut-end.ensures.value) in
    c.loop-cut.invariant k inside is
