use Rattle.std.proofs.Common.{refl}
use Rattle.std.proofs.lemmas.Result.{IfErr-weaker, on_ok_weaker}
use Rattle.bound_log.specs.declared.log_format.LogFormat.TheVariants.{First}
use Rattle.bound_log.specs.Meanings.{standing}
use Rattle.log_check.specs.Taking.{StopsBody, StopsSaid, no_rule, no_words}
use Rattle.log_check.proofs.taking.take_first.Goals as goal

pub returns-in-Some-clause-taken : goal.returns-in-Some-clause-taken
returns-in-Some-clause-taken c =
    on_ok_weaker c.take_standing.result (λ said. record { line = c.in-Some.line; spelled = c.in-Some.ensures.some; said = said }) c.take_standing.ensures.taken

pub returns-in-Some-clause-stopped : goal.returns-in-Some-clause-stopped
returns-in-Some-clause-stopped c =
    let before = c.args.progress.now in
    IfErr-weaker c.take_standing.result (StopsSaid c.args.network.now before.cuts before.stack.nodes (standing c.in-Some.line))
    (StopsBody c.args.network.now First before.cuts before.stack.nodes c.args.text.now)
    (λ kind said. no_rule c.in-Some.line c.in-Some.ensures.some said)
    c.take_standing.ensures.stopped

pub returns-in-None-clause-stopped : goal.returns-in-None-clause-stopped
returns-in-None-clause-stopped c = no_words refl c.in-None.ensures.none
