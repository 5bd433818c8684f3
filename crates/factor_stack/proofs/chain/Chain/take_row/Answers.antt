use Rattle.std.proofs.Common.{rules, ◌+◌, sym, ◌∙◌, subst, FitsSigned}
use Rattle.std.specs.Int.{w128}
use Rattle.std.proofs.lemmas.Int.{to_z-of_z}
use Rattle.whole_algebra.specs.Matrices.{IsTriangle}
use Rattle.pivot_chain.proofs.ChainRun.{gaps_more}
use Rattle.factor_stack.proofs.Running.{stops_there, so_far, none_yet}
use Rattle.factor_stack.proofs.Counted.{counted_open, open_counted}
use Rattle.factor_stack.proofs.chain.Chain.take_row.Goals as goal

pub returns-in-Some-clause-run : goal.returns-in-Some-clause-run
returns-in-Some-clause-run c = λ first small run here.
    let f : FitsSigned w128 c.in-Some.value = search rules in
    let open_yet = none_yet c.args.side first c.args.k c.args.self.now (sym c.if-is_some.false ∙ c.is_some.ensures) run in
    let done = (so_far c.args.side first c.args.self.now.rows c.args.k open_yet).done in
    simp (to_z-of_z, f)
    (stops_there c.args.side first c.args.self.now.rows c.step_row.new.rows c.args.k c.in-Some.value small c.requires.within open_yet c.step_row.ensures.places c.step_row.ensures.others
    (c.step_row.ensures.exact first (subst (λ n. IsTriangle n first) (sym run.places) small.shape) done here) c.in-Some.ensures.answer)

pub slack_of_row-slack-requires-clause-counted : goal.slack_of_row-slack-requires-clause-counted
slack_of_row-slack-requires-clause-counted c = counted_open c.args.self.now c.args.gaps.now c.args.k (sym c.if-is_some.false ∙ c.is_some.ensures) c.requires.counted

pub returns-in-Some-clause-counted : goal.returns-in-Some-clause-counted
returns-in-Some-clause-counted c =
    gaps_more c.args.self.now.rows c.step_row.new.rows c.args.gaps.now c.step_row.new.gaps c.args.k
    (counted_open c.args.self.now c.args.gaps.now c.args.k (sym c.if-is_some.false ∙ c.is_some.ensures) c.requires.counted)
    c.step_row.ensures.places c.step_row.ensures.others c.step_row.ensures.gap_others c.step_row.ensures.gaps

pub returns-in_default-clause-counted : goal.returns-in_default-clause-counted
returns-in_default-clause-counted c =
    let open_yet = sym c.if-is_some.false ∙ c.is_some.ensures in
    open_counted c.step_row.new.rows c.step_row.new.gaps (c.args.k + 1) c.args.self.now.stop open_yet
    (gaps_more c.args.self.now.rows c.step_row.new.rows c.args.gaps.now c.step_row.new.gaps c.args.k
    (counted_open c.args.self.now c.args.gaps.now c.args.k open_yet c.requires.counted)
    c.step_row.ensures.places c.step_row.ensures.others c.step_row.ensures.gap_others c.step_row.ensures.gaps)
