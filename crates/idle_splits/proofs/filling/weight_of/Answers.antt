use Rattle.std.proofs.Common.{◌≡◌, ◌<◌, ◌^◌, ◌∙◌, get_or, length, ap, arith, sym}
use Rattle.std.proofs.lemmas.Bool.{false≢true}
use Rattle.geo_model.specs.Below.{sum_below}
use Rattle.geo_model.proofs.BelowLemmas.{chosen_at, sum_below-none, chosen_sum-below}
use Rattle.idle_splits.proofs.Filled.{weight_more}
use Rattle.idle_splits.proofs.filling.weight_of.Goals as goal
use Rattle.idle_splits.proofs.filling.weight_of.Goals.{then-has, else-has}

pub loop-i-init : goal.loop-i-init
loop-i-init c = record { value = sym (sum_below-none (chosen_at c.args.coefficients.now c.args.plan.now)); size = omega arith }

pub loop-i-preserved : goal.loop-i-preserved
loop-i-preserved c =
    let more = weight_more c.args.coefficients.now c.args.plan.now c.loop-i.i c.has.result c.loop-i.sum c.if-has.sum c.has.ensures c.loop-i.invariant.value in
    let small : get_or c.args.coefficients.now c.loop-i.i 0 < 2 ^ 24 = c.requires.small c.loop-i.i 0 c.loop-i-test.true in
    elim c.if-has.branch [
      | then-has w ↦ record {
        value = more (λ _. omega arith) (λ left. absurd (false≢true (sym left ∙ w.if-has.true)));
        size = omega arith;
      }
      | else-has w ↦ record {
        value = more (λ has. absurd (false≢true (sym w.if-has.false ∙ has))) (λ _. omega arith);
        size = omega arith;
      }
    ]

pub returns-clause-value : goal.returns-clause-value
returns-clause-value c =
    let whole : c.loop-i.i ≡ length c.args.plan.now = omega (arith, c.requires.plan) in
    c.loop-i.invariant.value ∙ ap (sum_below (chosen_at c.args.coefficients.now c.args.plan.now)) whole ∙ sym (chosen_sum-below c.args.coefficients.now c.args.plan.now)
