use Rattle.std.proofs.Common.{rules, ◌+◌, ◌/◌, refl, sym, ◌∙◌, ap, arith}
use Rattle.geo_model.specs.Values.{with_value}
use Rattle.pivot_chain.specs.Verdict.{verdict_of}
use Rattle.plan_report.specs.Shown.{is_met}
use Rattle.plan_report.proofs.Halving.{halved_near, halved_down, halved_up, middle_below, middle_above}
use Rattle.plan_report.proofs.shown.shown_length.Goals as goal

pub halving-init : goal.halving-init
halving-init c = record { room = c.requires.room; order = omega arith; top = omega arith; same = λ given found. refl }

pub overflow_add-low : goal.overflow_add-low
overflow_add-low c = let value = c.requires.value in let top = c.halving.invariant.top in let order = c.halving.invariant.order in search rules

pub overflow_add-middle : goal.overflow_add-middle
overflow_add-middle c = let value = c.requires.value in let top = c.halving.invariant.top in let order = c.halving.invariant.order in search rules

pub verdict_at-requires-clause-room : goal.verdict_at-requires-clause-room
verdict_at-requires-clause-room c = c.halving.invariant.room

pub verdict_at-requires-clause-value : goal.verdict_at-requires-clause-value
verdict_at-requires-clause-value c = λ given found.
    let value = c.requires.value in
    let top = c.halving.invariant.top in
    let more = middle_above c.halving.low c.halving.high c.halving-test.true in
    let less = middle_below c.halving.low c.halving.high c.halving-test.true in
    (c.requires.takes given found).value ((c.halving.low + c.halving.high) / 2) (omega arith) (omega arith)

pub verdict_at-requires-clause-bounds : goal.verdict_at-requires-clause-bounds
verdict_at-requires-clause-bounds c = λ given found.
    let value = c.requires.value in
    let top = c.halving.invariant.top in
    let more = middle_above c.halving.low c.halving.high c.halving-test.true in
    let less = middle_below c.halving.low c.halving.high c.halving-test.true in
    (c.requires.takes given found).bounds ((c.halving.low + c.halving.high) / 2) (omega arith) (omega arith)

pub halving-preserved-then-is_met : goal.halving-preserved-then-is_met
halving-preserved-then-is_met c =
    let top = c.halving.invariant.top in
    let more = middle_above c.halving.low c.halving.high c.halving-test.true in
    let less = middle_below c.halving.low c.halving.high c.halving-test.true in
    record {
      room = c.verdict_at.ensures.kept;
      order = omega arith;
      top = omega arith;
      same = λ given found.
          sym (halved_down (λ v. is_met (verdict_of c.args.network.now c.args.plan.now (with_value given v))) c.args.value c.halving.low c.halving.high c.halving-test.true (omega arith)
          (ap is_met (sym (c.verdict_at.ensures.exact given found)) ∙ sym c.is_met.ensures ∙ c.if-is_met.true))
          ∙ c.halving.invariant.same given found;
    }

pub halving-preserved : goal.halving-preserved
halving-preserved c =
    let top = c.halving.invariant.top in
    let more = middle_above c.halving.low c.halving.high c.halving-test.true in
    let less = middle_below c.halving.low c.halving.high c.halving-test.true in
    record {
      room = c.verdict_at.ensures.kept;
      order = omega arith;
      top = omega arith;
      same = λ given found.
          sym (halved_up (λ v. is_met (verdict_of c.args.network.now c.args.plan.now (with_value given v))) c.args.value c.halving.low c.halving.high c.halving-test.true (omega arith)
          (ap is_met (sym (c.verdict_at.ensures.exact given found)) ∙ sym c.is_met.ensures ∙ c.if-is_met.false))
          ∙ c.halving.invariant.same given found;
    }

pub returns-clause-shown : goal.returns-clause-shown
returns-clause-shown c = λ given found.
    ap (λ p. p.1) (sym (halved_near (λ v. is_met (verdict_of c.args.network.now c.args.plan.now (with_value given v))) c.args.value c.halving.low c.halving.high (omega arith)) ∙ c.halving.invariant.same given found)

pub returns-clause-kept : goal.returns-clause-kept
returns-clause-kept c = c.halving.invariant.room
