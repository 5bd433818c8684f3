use Rattle.std.proofs.Common.{length, arith, sym, ◌∙◌}
use Rattle.limit_forms.specs.Grid.{is_in_part}
use Rattle.limit_forms.proofs.OrderSteps.{IsFilled, room_for_one, fill_taken, fill_left}
use Rattle.limit_forms.proofs.order.fill.Goals as goal
use Rattle.limit_forms.proofs.order.fill.Goals.{then-is_in_part, else-is_in_part}

pub bounds-order-next : goal.bounds-order-next
bounds-order-next c =
    let yes = (sym c.is_in_part.ensures ∙ c.if-is_in_part.true) in
    let room = room_for_one (is_in_part c.args.squares.now c.args.part) c.loop-unknown.unknown (length c.args.order.now) c.args.from (length c.args.order.now) (omega arith) yes c.requires.room in
    let next = c.loop-unknown.invariant.next in
    omega arith

pub loop-unknown-preserved : goal.loop-unknown-preserved
loop-unknown-preserved c =
    let p = is_in_part c.args.squares.now c.args.part in
    let filled : IsFilled p c.args.from c.args.order.now c.loop-unknown.order c.loop-unknown.next c.loop-unknown.unknown = record { reached = c.loop-unknown.invariant.next; written = c.loop-unknown.invariant.written } in
    elim c.if-is_in_part.branch [
      | then-is_in_part w ↦
          let yes = (sym c.is_in_part.ensures ∙ w.if-is_in_part.true) in
          let room = room_for_one p c.loop-unknown.unknown (length c.args.order.now) c.args.from (length c.args.order.now) (omega arith) yes c.requires.room in
          let next = c.loop-unknown.invariant.next in
          let done = fill_taken p c.args.from c.args.order.now c.loop-unknown.order c.loop-unknown.next c.loop-unknown.unknown (omega arith) yes filled in
          record {
            next = w.next-is ∙ done.reached;
            written = rw (w.next-is, w.order-is) done.written;
          }
      | else-is_in_part w ↦
          let never = (sym c.is_in_part.ensures ∙ w.if-is_in_part.false) in
          let done = fill_left p c.args.from c.args.order.now c.loop-unknown.order c.loop-unknown.next c.loop-unknown.unknown never filled in
          record {
            next = w.next-is ∙ done.reached;
            written = rw (w.next-is, w.order-is) done.written;
          }
    ]
