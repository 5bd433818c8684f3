use Rattle.std.proofs.Common.{◌≡◌, length, arith, ◌∙◌}
use Rattle.limit_forms.proofs.OrderSteps.{first_room, second_room, both_filled}
use Rattle.limit_forms.proofs.order.take_order.Goals as goal

pub fill-filled-requires-clause-room : goal.fill-filled-requires-clause-room
fill-filled-requires-clause-room c =
    let room = first_room (length c.args.order.now) c.args.squares.now in
    omega arith

pub fill-all-requires-clause-room : goal.fill-all-requires-clause-room
fill-all-requires-clause-room c =
    let room = second_room (length c.args.order.now) c.args.squares.now in
    let next = c.fill-filled.ensures.next in
    let same : length c.fill-filled.new.order ≡ length c.args.order.now = c.fill-filled.auto.order in
    rw same (omega arith)

pub returns : goal.returns
returns c =
    let n = length c.args.order.now in
    let same : length c.fill-filled.new.order ≡ n = c.fill-filled.auto.order in
    let long : length c.fill-all.new.order ≡ n = c.fill-all.auto.order ∙ same in
    let next = rw same at c.fill-all.ensures.next in
    let written = rw same at c.fill-all.ensures.written in
    both_filled n c.fill-filled.result c.fill-all.result c.args.order.now c.fill-filled.new.order c.fill-all.new.order c.args.squares.now long c.fill-filled.ensures.next next c.fill-filled.ensures.written written
