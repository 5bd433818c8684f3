use Rattle.std.proofs.Common.{arith}
use Rattle.factor_stack.proofs.SavedRows.{saved_all}
use Rattle.factor_stack.proofs.rows.save_rows.Goals as goal

pub returns : goal.returns
returns c =
    let places = c.loop-place.invariant.places in
    let room = c.requires in
    let count = c.size-place-end.ensures.rows in
    let done = c.loop-place-test.false in
    saved_all c.args.from.now c.loop-place.to c.args.first (omega arith) (λ j lt. c.loop-place.invariant.done j (omega arith))
