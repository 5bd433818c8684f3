use Rattle.std.proofs.Common.{◌+◌, ◌++◌, ◌∙◌, ap₂}
use Rattle.plan_report.specs.ReportText.{redundancy_text}
use Rattle.plan_report.specs.Shown.{redundancy_of}
use Rattle.plan_report.proofs.redundancies.put_row.Goals as goal

pub shown_redundancy-shown-requires-clause-least : goal.shown_redundancy-shown-requires-clause-least
shown_redundancy-shown-requires-clause-least c = c.requires.reported.network.tables.redundancy

pub returns-clause-text : goal.returns-clause-text
unfolding redundancy_of
returns-clause-text c = λ owner row found there.
    c.in_ok-put_redundancy.ensures
    ∙ ap₂ (λ n v. c.args.text.now.items ++ redundancy_text c.args.name.now (n + 1) v c.args.reported.now.q) c.from.ensures (c.shown_redundancy-shown.ensures.shown owner row found there)
