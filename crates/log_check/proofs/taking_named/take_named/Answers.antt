use Rattle.std.proofs.Common.{sym, subst}
use Rattle.std.specs.Prelude.{IfErr, OnOk}
use Rattle.bound_log.specs.Meanings.{named_meaning}
use Rattle.bound_log.specs.declared.named_line.NamedLine.{NamedLine}
use Rattle.log_check.specs.Taking.{StopsSaid, TakesSaid}
use Rattle.log_check.proofs.taking_named.take_named.Goals as goal

pub returns-in-Split-clause-taken : goal.returns-in-Split-clause-taken
returns-in-Split-clause-taken c =
    subst (λ (l : NamedLine). OnOk c.take_standing.result (TakesSaid c.args.network.now (named_meaning c.args.progress.now.cuts l) c.args.progress.now c.take_standing.new.progress)) (sym c.in-Split.is) c.take_standing.ensures.taken

pub returns-in-Split-clause-stopped : goal.returns-in-Split-clause-stopped
returns-in-Split-clause-stopped c =
    subst (λ (l : NamedLine). IfErr c.take_standing.result (λ kind. StopsSaid c.args.network.now c.args.progress.now.cuts c.args.progress.now.stack.nodes (named_meaning c.args.progress.now.cuts l) kind)) (sym c.in-Split.is) c.take_standing.ensures.stopped

pub returns-in-Cost-clause-taken : goal.returns-in-Cost-clause-taken
returns-in-Cost-clause-taken c =
    subst (λ (l : NamedLine). OnOk c.take_standing-in-Cost.result (TakesSaid c.args.network.now (named_meaning c.args.progress.now.cuts l) c.args.progress.now c.take_standing-in-Cost.new.progress)) (sym c.in-Cost.is) c.take_standing-in-Cost.ensures.taken

pub returns-in-Cost-clause-stopped : goal.returns-in-Cost-clause-stopped
returns-in-Cost-clause-stopped c =
    subst (λ (l : NamedLine). IfErr c.take_standing-in-Cost.result (λ kind. StopsSaid c.args.network.now c.args.progress.now.cuts c.args.progress.now.stack.nodes (named_meaning c.args.progress.now.cuts l) kind)) (sym c.in-Cost.is) c.take_standing-in-Cost.ensures.stopped

pub returns-in-Pivot-clause-taken : goal.returns-in-Pivot-clause-taken
returns-in-Pivot-clause-taken c =
    subst (λ (l : NamedLine). OnOk c.take_standing-in-Pivot.result (TakesSaid c.args.network.now (named_meaning c.args.progress.now.cuts l) c.args.progress.now c.take_standing-in-Pivot.new.progress)) (sym c.in-Pivot.is) c.take_standing-in-Pivot.ensures.taken

pub returns-in-Pivot-clause-stopped : goal.returns-in-Pivot-clause-stopped
returns-in-Pivot-clause-stopped c =
    subst (λ (l : NamedLine). IfErr c.take_standing-in-Pivot.result (λ kind. StopsSaid c.args.network.now c.args.progress.now.cuts c.args.progress.now.stack.nodes (named_meaning c.args.progress.now.cuts l) kind)) (sym c.in-Pivot.is) c.take_standing-in-Pivot.ensures.stopped

pub returns-in-Named-clause-taken : goal.returns-in-Named-clause-taken
returns-in-Named-clause-taken c =
    subst (λ (l : NamedLine). OnOk c.take_name.result (TakesSaid c.args.network.now (named_meaning c.args.progress.now.cuts l) c.args.progress.now c.take_name.new.progress)) (sym c.in-Named.is) c.take_name.ensures.taken

pub returns-in-Named-clause-stopped : goal.returns-in-Named-clause-stopped
returns-in-Named-clause-stopped c =
    subst (λ (l : NamedLine). IfErr c.take_name.result (λ kind. StopsSaid c.args.network.now c.args.progress.now.cuts c.args.progress.now.stack.nodes (named_meaning c.args.progress.now.cuts l) kind)) (sym c.in-Named.is) c.take_name.ensures.stopped

pub returns-in-UseCut-clause-taken : goal.returns-in-UseCut-clause-taken
returns-in-UseCut-clause-taken c =
    subst (λ (l : NamedLine). OnOk c.take_use.result (TakesSaid c.args.network.now (named_meaning c.args.progress.now.cuts l) c.args.progress.now c.take_use.new.progress)) (sym c.in-UseCut.is) c.take_use.ensures.taken

pub returns-in-UseCut-clause-stopped : goal.returns-in-UseCut-clause-stopped
returns-in-UseCut-clause-stopped c =
    subst (λ (l : NamedLine). IfErr c.take_use.result (λ kind. StopsSaid c.args.network.now c.args.progress.now.cuts c.args.progress.now.stack.nodes (named_meaning c.args.progress.now.cuts l) kind)) (sym c.in-UseCut.is) c.take_use.ensures.stopped

pub returns-in-UseDual-clause-taken : goal.returns-in-UseDual-clause-taken
returns-in-UseDual-clause-taken c =
    subst (λ (l : NamedLine). OnOk c.take_use_dual.result (TakesSaid c.args.network.now (named_meaning c.args.progress.now.cuts l) c.args.progress.now c.take_use_dual.new.progress)) (sym c.in-UseDual.is) c.take_use_dual.ensures.taken

pub returns-in-UseDual-clause-stopped : goal.returns-in-UseDual-clause-stopped
returns-in-UseDual-clause-stopped c =
    subst (λ (l : NamedLine). IfErr c.take_use_dual.result (λ kind. StopsSaid c.args.network.now c.args.progress.now.cuts c.args.progress.now.stack.nodes (named_meaning c.args.progress.now.cuts l) kind)) (sym c.in-UseDual.is) c.take_use_dual.ensures.stopped
