use Rattle.std.proofs.Common.{◌≡◌, ◌++◌, take}
use Rattle.candidate_tables.specs.CandidateTable.{candidate_names}
use Rattle.plan_report.specs.RowsText.{numbered, candidate_text}
use Rattle.plan_report.proofs.rows.put_candidates.Given as goal

abbrev pub invariant-loop-number : goal.invariant-loop-number
invariant-loop-number l = l.text.items ≡ l.fn.text.items ++ numbered (candidate_text (candidate_names l.names)) 0 (take l.number l.candidates)
