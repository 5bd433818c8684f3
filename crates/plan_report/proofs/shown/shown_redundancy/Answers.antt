use Rattle.std.proofs.Common.{rules, refl, sym, ◌∙◌, ap, arith}
use Rattle.std.specs.Prelude.{not}
use Rattle.geo_model.specs.Values.{row_limit}
use Rattle.pivot_chain.specs.Verdict.{verdict_of}
use Rattle.plan_report.specs.Shown.{is_met}
use Rattle.plan_report.proofs.Halving.{halved_near, halved_down, halved_up, middle_below, middle_above}
use Rattle.plan_report.proofs.shown.shown_redundancy.Goals as goal

pub halving-init : goal.halving-init
halving-init c = record { room = c.requires.room; order = omega arith; top = omega arith; same = λ owner given found there. refl }

pub overflow_add-low : goal.overflow_add-low
overflow_add-low c = let top = c.halving.invariant.top in let order = c.halving.invariant.order in search rules

pub overflow_add-middle : goal.overflow_add-middle
overflow_add-middle c = let top = c.halving.invariant.top in let order = c.halving.invariant.order in search rules

pub redundancy_at-requires-clause-room : goal.redundancy_at-requires-clause-room
redundancy_at-requires-clause-room c = c.halving.invariant.room

pub redundancy_at-requires-clause-high : goal.redundancy_at-requires-clause-high
redundancy_at-requires-clause-high c =
    let top = c.halving.invariant.top in
    let less = middle_below c.halving.low c.halving.high c.halving-test.true in
    omega arith

pub halving-preserved-then-is_met : goal.halving-preserved-then-is_met
halving-preserved-then-is_met c =
    let top = c.halving.invariant.top in
    let more = middle_above c.halving.low c.halving.high c.halving-test.true in
    let less = middle_below c.halving.low c.halving.high c.halving-test.true in
    record {
      room = c.redundancy_at.ensures.kept;
      order = omega arith;
      top = omega arith;
      same = λ owner given found there.
          sym (halved_up (λ v. not (is_met (verdict_of c.args.network.now c.args.plan.now (row_limit c.args.candidate c.args.row given v)))) 1000 c.halving.low c.halving.high c.halving-test.true (omega arith)
          (ap not (ap is_met (sym (c.redundancy_at.ensures.exact owner given found there)) ∙ sym c.is_met.ensures ∙ c.if-is_met.true)))
          ∙ c.halving.invariant.same owner given found there;
    }

pub halving-preserved : goal.halving-preserved
halving-preserved c =
    let top = c.halving.invariant.top in
    let more = middle_above c.halving.low c.halving.high c.halving-test.true in
    let less = middle_below c.halving.low c.halving.high c.halving-test.true in
    record {
      room = c.redundancy_at.ensures.kept;
      order = omega arith;
      top = omega arith;
      same = λ owner given found there.
          sym (halved_down (λ v. not (is_met (verdict_of c.args.network.now c.args.plan.now (row_limit c.args.candidate c.args.row given v)))) 1000 c.halving.low c.halving.high c.halving-test.true (omega arith)
          (ap not (ap is_met (sym (c.redundancy_at.ensures.exact owner given found there)) ∙ sym c.is_met.ensures ∙ c.if-is_met.false)))
          ∙ c.halving.invariant.same owner given found there;
    }

pub returns-clause-shown : goal.returns-clause-shown
returns-clause-shown c = λ owner given found there.
    ap (λ p. p.0) (sym (halved_near (λ v. not (is_met (verdict_of c.args.network.now c.args.plan.now (row_limit c.args.candidate c.args.row given v)))) 1000 c.halving.low c.halving.high (omega arith)) ∙ c.halving.invariant.same owner given found there)

pub returns-clause-kept : goal.returns-clause-kept
returns-clause-kept c = c.halving.invariant.room
