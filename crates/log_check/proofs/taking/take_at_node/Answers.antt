use Rattle.std.proofs.Common.{length, arith, ap, sym, subst}
use Rattle.std.proofs.lemmas.Bool.{false≢true}
use Rattle.std.proofs.lemmas.Result.{IfErr-weaker, on_ok_weaker}
use Rattle.bound_log.specs.declared.log_format.LogFormat.{LogFormat}
use Rattle.bound_log.specs.declared.log_format.LogFormat.TheVariants.{First, Second}
use Rattle.log_check.specs.Taking.{Stops, StopsBody, TakesText, no_body}
use Rattle.log_check.proofs.PlaceLemmas.{not_empty}
use Rattle.log_check.proofs.taking.take_at_node.Goals as goal

-- some node is open
pub take_first-requires-clause-some : goal.take_first-requires-clause-some
take_first-requires-clause-some c =
    let nodes = c.args.progress.now.stack.nodes in
    let top = not_empty nodes (λ none. false≢true (c.if-is_empty.ensures.1 none)) in
    omega (arith, ap length top.is)

pub take_second-requires-clause-some : goal.take_second-requires-clause-some
take_second-requires-clause-some c =
    let nodes = c.args.progress.now.stack.nodes in
    let top = not_empty nodes (λ none. false≢true (c.if-is_empty.ensures.1 none)) in
    omega (arith, ap length top.is)

pub returns-in-First-clause-taken : goal.returns-in-First-clause-taken
returns-in-First-clause-taken c =
    on_ok_weaker c.take_first.result
    (λ body. subst (λ (f : LogFormat). TakesText c.args.network.now f c.args.text.now c.args.ended c.args.progress.now c.take_first.new.progress) (sym c.in-First.is)
    (record { with_end = c.if-not-ended.false; body = body }))
    c.take_first.ensures.taken

pub returns-in-First-clause-stopped : goal.returns-in-First-clause-stopped
returns-in-First-clause-stopped c =
    let before = c.args.progress.now in
    IfErr-weaker c.take_first.result (StopsBody c.args.network.now First before.cuts before.stack.nodes c.args.text.now)
    (Stops c.args.network.now before.format before.cuts before.stack.nodes c.args.text.now c.args.ended)
    (λ kind body. no_body (λ none. false≢true (c.if-is_empty.ensures.1 none)) c.if-not-ended.false
    (subst (λ (f : LogFormat). StopsBody c.args.network.now f before.cuts before.stack.nodes c.args.text.now kind) (sym c.in-First.is) body))
    c.take_first.ensures.stopped

pub returns-in-Second-clause-taken : goal.returns-in-Second-clause-taken
returns-in-Second-clause-taken c =
    on_ok_weaker c.take_second.result
    (λ body. subst (λ (f : LogFormat). TakesText c.args.network.now f c.args.text.now c.args.ended c.args.progress.now c.take_second.new.progress) (sym c.in-Second.is)
    (record { with_end = c.if-not-ended.false; body = body }))
    c.take_second.ensures.taken

pub returns-in-Second-clause-stopped : goal.returns-in-Second-clause-stopped
returns-in-Second-clause-stopped c =
    let before = c.args.progress.now in
    IfErr-weaker c.take_second.result (StopsBody c.args.network.now Second before.cuts before.stack.nodes c.args.text.now)
    (Stops c.args.network.now before.format before.cuts before.stack.nodes c.args.text.now c.args.ended)
    (λ kind body. no_body (λ none. false≢true (c.if-is_empty.ensures.1 none)) c.if-not-ended.false
    (subst (λ (f : LogFormat). StopsBody c.args.network.now f before.cuts before.stack.nodes c.args.text.now kind) (sym c.in-Second.is) body))
    c.take_second.ensures.stopped
