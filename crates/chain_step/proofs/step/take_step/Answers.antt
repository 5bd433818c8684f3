use Rattle.std.proofs.Common.{rules, ◌-◌, get_or, length, pos, sym, ◌∙◌, ap, arith, FitsSigned}
use Rattle.std.specs.Int.{w128}
use Rattle.std.proofs.lemmas.Int.{to_z-of_z}
use Rattle.whole_algebra.proofs.Ring.{zero_add}
use Rattle.chain_step.specs.Step.{left_of, with_left}
use Rattle.chain_step.proofs.RowSteps.{made_whole, none_lacking}
use Rattle.chain_step.proofs.step.take_step.Goals as goal

pub returns-clause-exact : goal.returns-clause-exact
returns-clause-exact c = λ matrix t first is.
    let kept = c.take_part.auto.row in
    let some = c.requires.some in
    let row = c.take_part.new.row in
    let slack = get_or c.args.gaps.now 0 (pos 0) in
    let f : FitsSigned w128 (get_or row 0 (pos 0)) = search rules in
    let g : FitsSigned w128 slack = search rules in
    let h : FitsSigned w128 c.add_slack.result = record { sfits = c.add_slack.type_inv } in
    let sum = simp (to_z-of_z, f, g) at c.add_slack.ensures in
    simp (to_z-of_z, h)
    (made_whole c.args.side row slack c.add_slack.result (omega arith) sum
    ∙ ap (λ s. with_left c.args.side s row) (c.requires.left ∙ sym (zero_add (left_of c.args.pivot.now (length c.args.pivot.now - length c.args.row.now))))
    ∙ c.take_part.ensures.exact (pos 0) matrix t first (is ∙ sym (none_lacking c.args.side c.args.row.now)))
