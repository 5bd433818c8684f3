use Rattle.std.proofs.Common.{◌++◌, ap, ◌∙◌, sym, [], arith}
use Rattle.candidate_tables.specs.CandidateTable.{candidate_names}
use Rattle.plan_report.specs.RowsText.{candidate_text, numbered, row_text}
use Rattle.plan_report.proofs.Numbered.{map-at, numbered-grows}
use Rattle.plan_report.proofs.rows.put_candidates.Goals as goal

pub loop-number-preserved : goal.loop-number-preserved
loop-number-preserved c =
    let name = map-at (λ candidate. candidate.name) c.args.names.now c.loop-number.number c.get.result.now [] c.get.ensures in
    numbered-grows (candidate_text (candidate_names c.args.names.now)) 0 c.loop-number.number c.loop-number.number c.args.candidates.now c.index-candidates-number.result
    c.args.text.now.items c.loop-number.text.items c.put_rows.new.text.items
    c.loop-number-test.true c.index-candidates-number.is (omega arith) c.loop-number.invariant
    (c.in_ok-put_rows.ensures
    ∙ ap (λ rows. c.loop-number.text.items ++ numbered (row_text c.get.result.now.name) 1 rows) (c.as_slice.ensures.value ∙ ap (λ v. v.rows) c.candidate.view_is)
    ∙ ap (λ n. c.loop-number.text.items ++ numbered (row_text n) 1 c.index-candidates-number.result.rows) (sym name))
