use Rattle.std.proofs.Common.{◌≡◌, ◌∙◌, ◌^◌, ◌<◌, ◌≤◌, ℤ, pos, Bool, true, false, ◌&&◌, if◌then◌else◌, to_z, of_z, length, arith, ap, refl, sym}
use mir.Syntax.{w128}
use Rattle.std.specs.Int.{int_min}
use Rattle.std.specs.Prelude.{unsigned_abs}
use Rattle.std.proofs.lemmas.Int.{ints}
use Rattle.geo_model.specs.Dual.{is_open, open_part}
use Rattle.geo_model.proofs.BelowLemmas.{int_sum_below-none}
use Rattle.whole_algebra.specs.Matrices.{at}
use Rattle.whole_algebra.proofs.Written.{read_back}
use Rattle.reduced_sums.specs.Groups.{in_group}
use Rattle.reduced_sums.proofs.DualSizes.{sum_step, sum_stays, int_min_swap, int_min_size}
use Rattle.reduced_sums.proofs.sums.open_sum.Goals as goal
use Rattle.reduced_sums.proofs.sums.open_sum.Goals.{then-is_open+then-is_in_group, else-is_open, else-is_open-via-then-is_open+else-is_in_group, else-is_open-via-else-is_open}

pub loop-i-init : goal.loop-i-init
loop-i-init c =
    let reduced = at c.args.reduced.now in
    record {
      value = sym (int_sum_below-none (open_part reduced c.args.node.now (in_group c.args.network.now.stations c.args.group)));
      size = omega (arith, ints);
    }

counts : (a b : Bool) (z : ℤ) → a ≡ true → b ≡ true → z ≡ (if a && b then z else pos 0)
counts a b z e f = rw e (rw f refl)

first_not : (a b : Bool) (z : ℤ) → a ≡ false → pos 0 ≡ (if a && b then z else pos 0)
first_not a b z e = rw e refl

second_not : (a b : Bool) (z : ℤ) → b ≡ false → pos 0 ≡ (if a && b then z else pos 0)
second_not true b z e = rw e refl
second_not false b z e = refl

pub loop-i-preserved : goal.loop-i-preserved
loop-i-preserved c =
    let i = c.loop-i.i in
    let node = c.args.node.now in
    let network = c.args.network.now in
    let reduced = at c.args.reduced.now in
    let test = in_group network.stations c.args.group in
    let part = open_part reduced node test in
    let few : i < 256 = omega (arith, c.candidates.ensures.bounds.candidates, ap length c.candidates.ensures.value) in
    elim c.if-is_open.branch [
      | then-is_open+then-is_in_group w ↦
          let size = c.requires.reduced.small i in
          let least : w.min-sum.result ≡ int_min (pos 0) (reduced i) =
          w.min-sum.ensures.value ∙ int_min_swap (to_z w128 (of_z w128 (reduced i))) (pos 0) ∙ ap (int_min (pos 0)) (read_back (reduced i) (2 ^ 75) size (omega arith)) in
          let light : unsigned_abs w.min-sum.result ≤ 2 ^ 75 = rw least (int_min_size (reduced i) (2 ^ 75) size) in
          let s = sum_step part i (2 ^ 75) w.min-sum.result (to_z w128 c.loop-i.sum-bits) (to_z w128 c.if-is_open.sum-bits) (omega arith) (omega arith) c.loop-i.invariant.value c.loop-i.invariant.size
          (least ∙ counts (is_open node i) (test i) (int_min (pos 0) (reduced i)) (sym c.is_open.ensures ∙ w.if-is_open.true) (sym w.is_in_group.ensures ∙ w.if-is_in_group.true)) light w.sum-is in
          record { value = s.value; size = s.size }
      | else-is_open w ↦
          let none : pos 0 ≡ part i = elim w.else-is_open.branch [
            | else-is_open-via-then-is_open+else-is_in_group v ↦ second_not (is_open node i) (test i) (int_min (pos 0) (reduced i)) (sym v.is_in_group.ensures ∙ v.if-is_in_group.false)
            | else-is_open-via-else-is_open v ↦ first_not (is_open node i) (test i) (int_min (pos 0) (reduced i)) (sym c.is_open.ensures ∙ v.if-is_open.false)
          ] in
          let s = sum_stays part i (2 ^ 75) (to_z w128 c.loop-i.sum-bits) (to_z w128 c.if-is_open.sum-bits) c.loop-i.invariant.value c.loop-i.invariant.size none w.sum-is in
          record { value = s.value; size = s.size }
    ]
