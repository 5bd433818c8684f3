use Rattle.std.proofs.Common.{rules, ◌∙◌, arith, FitsSigned}
use Rattle.std.specs.Int.{w128}
use Rattle.std.proofs.lemmas.Int.{to_z-of_z}
use Rattle.pivot_chain.proofs.ChainRun.{slack_here, few_here}
use Rattle.pivot_chain.proofs.gaps.slack_of_row.Goals as goal

pub counted_slack-requires-clause-few : goal.counted_slack-requires-clause-few
counted_slack-requires-clause-few c =
    let rows = c.size-size.ensures.rows in
    let most = c.size-size.ensures.most in
    few_here c.args.rows.now c.args.gaps.now c.args.k (omega arith) c.requires.within c.requires.counted

pub returns : goal.returns
returns c =
    let f : FitsSigned w128 c.counted_slack.result = search rules in
    simp (to_z-of_z, f)
    (c.counted_slack.ensures ∙ slack_here c.args.rows.now c.args.gaps.now c.args.k c.size-size.ensures.shape c.requires.within c.requires.counted)
