use Rattle.std.proofs.Common.{sym, ◌∙◌, ap, arith}
use Rattle.factor_stack.specs.Image.{touches}
use Rattle.factor_stack.proofs.FirstPlaces.{is_position, got_at, untouched_more}
use Rattle.factor_stack.proofs.first_place.first_place_in.Goals as goal

pub returns-then-touches : goal.returns-then-touches
returns-then-touches c =
    let lt = c.loop-place-test.true in
    let n = c.requires in
    is_position (touches c.args.candidate.now) c.args.grid.now.order c.loop-place.place (omega arith) c.loop-place.invariant
    (λ _. ap (touches c.args.candidate.now) (got_at c.args.grid.now.order c.loop-place.place c.unknown.result c.unknown.ensures.found) ∙ (sym c.touches.ensures ∙ c.if-touches.true))

pub returns : goal.returns
returns c =
    let done = c.loop-place-test.false in
    let n = c.requires in
    is_position (touches c.args.candidate.now) c.args.grid.now.order c.args.n (omega arith) (λ j lt. c.loop-place.invariant j (omega arith)) (λ lt. absurd (omega arith))

pub loop-place-preserved : goal.loop-place-preserved
loop-place-preserved c =
    untouched_more (touches c.args.candidate.now) c.args.grid.now.order c.loop-place.place c.unknown.result c.loop-place.invariant c.unknown.ensures.found (sym c.touches.ensures ∙ c.if-touches.false)
