use Rattle.std.proofs.Common.{arith}
use Rattle.factor_stack.proofs.SavedRows.{put_all}
use Rattle.factor_stack.proofs.rows.put_rows.Goals as goal

pub returns : goal.returns
returns c =
    let count = c.size-place-end.ensures.rows in
    let done = c.loop-place-test.false in
    put_all c.args.to.now c.loop-place.to c.args.from.now c.args.first c.requires c.loop-place.invariant.places c.loop-place.invariant.before (λ j lt. c.loop-place.invariant.done j (omega arith))
