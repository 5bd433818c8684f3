use Rattle.std.proofs.Common.{rules, ◌+◌, ◌-◌, get_or, length, pos, ◌+ℤ◌, sym, ◌∙◌, ap, arith, to_z, of_z, FitsSigned}
use Rattle.std.specs.Int.{w128}
use Rattle.std.proofs.lemmas.Int.{to_z-of_z}
use Rattle.whole_algebra.proofs.Ring.{add_zero}
use Rattle.chain_step.proofs.RowSteps.{IsPart, part_law, skipped_part_law, part_size, part_head, dividing_at, counted_more, nothing_counted}
use Rattle.chain_step.proofs.step.take_part.Goals as goal

pub divide-requires-clause-pivot : goal.divide-requires-clause-pivot
divide-requires-clause-pivot c =
    let shorter = c.requires.shorter in
    dividing_at c.args.pivot.now (length c.args.pivot.now - length c.args.row.now) c.requires.pivot (omega arith) (λ e. c.if-pivot-column-ne0.true (ap (of_z w128) e))

pub returns-then-pivot-column-ne0-clause-exact : goal.returns-then-pivot-column-ne0-clause-exact
returns-then-pivot-column-ne0-clause-exact c =
    let shorter = c.requires.shorter in
    let some = c.requires.some in
    let k = length c.args.pivot.now - length c.args.row.now in
    let d = dividing_at c.args.pivot.now k c.requires.pivot (omega arith) (λ e. c.if-pivot-column-ne0.true (ap (of_z w128) e)) in
    let stepped : IsPart c.args.side c.args.pivot.now c.args.row.now c.divide.new.row k =
    record { long = c.divide.auto.row; right = c.divide.ensures.right; diagonal = c.divide.ensures.diagonal } in
    part_law c.args.side c.args.pivot.now c.args.row.now c.divide.new.row k some c.requires.pivot.goes_on (omega arith) (omega arith) d.above stepped

pub returns-then-pivot-column-ne0-clause-size : goal.returns-then-pivot-column-ne0-clause-size
returns-then-pivot-column-ne0-clause-size c =
    let shorter = c.requires.shorter in
    let some = c.requires.some in
    let k = length c.args.pivot.now - length c.args.row.now in
    let d = dividing_at c.args.pivot.now k c.requires.pivot (omega arith) (λ e. c.if-pivot-column-ne0.true (ap (of_z w128) e)) in
    let stepped : IsPart c.args.side c.args.pivot.now c.args.row.now c.divide.new.row k =
    record { long = c.divide.auto.row; right = c.divide.ensures.right; diagonal = c.divide.ensures.diagonal } in
    part_size c.args.side c.args.pivot.now c.args.row.now c.divide.new.row k d (omega arith) (omega arith) stepped

pub returns-then-pivot-column-ne0-clause-head : goal.returns-then-pivot-column-ne0-clause-head
returns-then-pivot-column-ne0-clause-head c =
    let shorter = c.requires.shorter in
    let some = c.requires.some in
    let k = length c.args.pivot.now - length c.args.row.now in
    let d = dividing_at c.args.pivot.now k c.requires.pivot (omega arith) (λ e. c.if-pivot-column-ne0.true (ap (of_z w128) e)) in
    let stepped : IsPart c.args.side c.args.pivot.now c.args.row.now c.divide.new.row k =
    record { long = c.divide.auto.row; right = c.divide.ensures.right; diagonal = c.divide.ensures.diagonal } in
    part_head c.args.side c.args.pivot.now c.args.row.now c.divide.new.row k d (omega arith) stepped

pub returns-else-pivot-column-ne0-clause-exact : goal.returns-else-pivot-column-ne0-clause-exact
returns-else-pivot-column-ne0-clause-exact c =
    let shorter = c.requires.shorter in
    let some = c.requires.some in
    let k = length c.args.pivot.now - length c.args.row.now in
    let f : FitsSigned w128 (get_or c.args.pivot.now k (pos 0)) = search rules in
    let none = simp (to_z-of_z, f) at (ap (to_z w128) c.if-pivot-column-ne0.false) in
    skipped_part_law c.args.side c.args.pivot.now c.args.row.now k c.requires.pivot.goes_on (omega arith) (omega arith) none

pub returns-then-pivot-column-ne0-clause-counted : goal.returns-then-pivot-column-ne0-clause-counted
returns-then-pivot-column-ne0-clause-counted c =
    let same = c.requires.same in
    counted_more c.args.gaps.now c.divide.new.gaps c.args.pivot.now (length c.args.pivot.now - length c.args.row.now) c.divide.auto.gaps c.divide.ensures.apart
    (λ m one lt. c.divide.ensures.gaps m one (omega arith))

pub returns-else-pivot-column-ne0-clause-gaps : goal.returns-else-pivot-column-ne0-clause-gaps
returns-else-pivot-column-ne0-clause-gaps c = λ m one lt.
    let k = length c.args.pivot.now - length c.args.row.now in
    let f : FitsSigned w128 (get_or c.args.pivot.now k (pos 0)) = search rules in
    let none = simp (to_z-of_z, f) at (ap (to_z w128) c.if-pivot-column-ne0.false) in
    sym (ap (λ z. get_or c.args.gaps.now m (pos 0) +ℤ z) (nothing_counted c.args.pivot.now k (k + m) c.requires.pivot.goes_on none) ∙ add_zero (get_or c.args.gaps.now m (pos 0)))
