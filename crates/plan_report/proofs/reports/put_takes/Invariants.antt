use Rattle.std.proofs.Common.{◌≡◌, ◌++◌, take}
use Rattle.candidate_tables.specs.CandidateTable.{candidate_names}
use Rattle.plan_report.specs.ReportText.{takes_text}
use Rattle.plan_report.proofs.reports.put_takes.Given as goal

abbrev pub invariant-loop-k : goal.invariant-loop-k
invariant-loop-k l = l.text.items ≡ l.fn.text.items ++ takes_text (take l.k (candidate_names l.candidates)) l.plan
