use Rattle.std.proofs.Common.{ℕ, ◌<◌, arith, ap, rules}
use Rattle.log_check.specs.declared.progress.Progress.{Progress}
use Rattle.log_check.specs.Taking.{at_node, past_head}
use Rattle.log_check.proofs.taking.take_line.Goals as goal

pub returns-in-Err-clause-stopped : goal.returns-in-Err-clause-stopped
returns-in-Err-clause-stopped c =
    let some : 0 < c.args.progress.now.lines = first_of (omega (arith, c.if-progress-eq0.false), search rules) in
    past_head some c.in-Err.ensures.stopped

pub returns-clause-taken : goal.returns-clause-taken
returns-clause-taken c =
    let some : 0 < c.args.progress.now.lines = first_of (omega (arith, c.if-progress-eq0.false), search rules) in
    let middle = c.take_at_node.new.progress in
    let made : ℕ → Progress = λ (n : ℕ). record middle { lines = n } in
    at_node middle some c.in_default.ensures.taken (ap made c.saturating_add-progress.ensures)
