use Rattle.std.proofs.Common.{◌≡◌, ◌∙◌, ◌^◌, ◌<◌, ℤ, pos, Bool, true, false, if◌then◌else◌, to_z, length, arith, ap, sym}
use mir.Syntax.{w128}
use Rattle.std.proofs.lemmas.Int.{ints}
use Rattle.std.proofs.lemmas.Option.{get_or_from_slice_get}
use Rattle.geo_model.specs.Dual.{inner_part}
use Rattle.geo_model.specs.Prices.{chooses}
use Rattle.geo_model.proofs.BelowLemmas.{int_sum_below-none}
use Rattle.whole_algebra.specs.Matrices.{at}
use Rattle.reduced_sums.proofs.DualSizes.{sum_step, sum_stays}
use Rattle.reduced_sums.proofs.sums.inner_sum.Goals as goal
use Rattle.reduced_sums.proofs.sums.inner_sum.Goals.{then-has, else-has}

pub loop-i-init : goal.loop-i-init
loop-i-init c =
    record {
      value = sym (int_sum_below-none (inner_part (at c.args.reduced.now) c.args.node.now));
      size = omega (arith, ints);
    }

counts : (b : Bool) (z : ℤ) → b ≡ true → z ≡ (if b then z else pos 0)
counts b z e = sym (ap (λ (v : Bool). if v then z else pos 0) e)

counts_not : (b : Bool) (z : ℤ) → b ≡ false → pos 0 ≡ (if b then z else pos 0)
counts_not b z e = sym (ap (λ (v : Bool). if v then z else pos 0) e)

pub loop-i-preserved : goal.loop-i-preserved
loop-i-preserved c =
    let i = c.loop-i.i in
    let reduced = at c.args.reduced.now in
    let part = inner_part reduced c.args.node.now in
    let flag : chooses c.args.node.now.inside i ≡ c.has.result = get_or_from_slice_get c.args.node.now.inside i c.has.result false c.has.ensures in
    let few : i < 256 = omega (arith, c.candidates.ensures.bounds.candidates, ap length c.candidates.ensures.value) in
    elim c.if-has.branch [
      | then-has w ↦
          let s = sum_step part i (2 ^ 75) (reduced i) (to_z w128 c.loop-i.sum-bits) (to_z w128 c.if-has.sum-bits) (omega arith) (omega arith) c.loop-i.invariant.value c.loop-i.invariant.size
          (counts (chooses c.args.node.now.inside i) (reduced i) (flag ∙ w.if-has.true)) (c.requires.reduced.small i) w.sum-is in
          record { value = s.value; size = s.size }
      | else-has w ↦
          let s = sum_stays part i (2 ^ 75) (to_z w128 c.loop-i.sum-bits) (to_z w128 c.if-has.sum-bits) c.loop-i.invariant.value c.loop-i.invariant.size
          (counts_not (chooses c.args.node.now.inside i) (reduced i) (flag ∙ w.if-has.false)) w.sum-is in
          record { value = s.value; size = s.size }
    ]
