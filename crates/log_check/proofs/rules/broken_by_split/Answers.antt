use Rattle.std.proofs.Common.{◌<◌, ◌≤◌, length, arith, ap, sym}
use Rattle.bound_log.proofs.AllowedLemmas.{split_allowed}
use Rattle.log_check.proofs.RuleLemmas.{split_out_of_range, not_in_upper, already_inside}
use Rattle.log_check.proofs.rules.broken_by_split.Goals as goal

pub returns-then-candidate-candidates : goal.returns-then-candidate-candidates
returns-then-candidate-candidates c =
    let past : length c.args.network.now.candidates ≤ c.args.candidate = omega (arith, ap length c.candidates-candidates.ensures.value, c.if-candidate-candidates.true) in
    sym (split_out_of_range c.args.network.now c.args.node.now c.args.candidate past)

pub returns-then-not-has : goal.returns-then-not-has
returns-then-not-has c =
    let inside : c.args.candidate < length c.args.network.now.candidates = omega (arith, ap length c.candidates-candidates.ensures.value, c.if-candidate-candidates.false) in
    sym (not_in_upper c.args.network.now c.args.node.now c.args.candidate inside c.if-not-has.ensures)

pub returns-then-has : goal.returns-then-has
returns-then-has c =
    let inside : c.args.candidate < length c.args.network.now.candidates = omega (arith, ap length c.candidates-candidates.ensures.value, c.if-candidate-candidates.false) in
    sym (already_inside c.args.network.now c.args.node.now c.args.candidate inside c.if-not-has.ensures c.if-has.ensures)

pub returns : goal.returns
returns c =
    let inside : c.args.candidate < length c.args.network.now.candidates = omega (arith, ap length c.candidates-candidates.ensures.value, c.if-candidate-candidates.false) in
    sym (split_allowed c.args.network.now c.args.node.now c.args.candidate (record { in_range = inside; in_upper = c.if-not-has.ensures; not_inside = c.if-has.ensures }))
