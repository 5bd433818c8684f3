use Rattle.std.proofs.Common.{◌≤◌, ◌++◌, length, ap, sym, ◌∙◌, append_assoc, take, arith}
use Rattle.candidate_tables.specs.CandidateTable.{candidate_names}
use Rattle.plan_report.specs.ReportText.{take_text, takes_text}
use Rattle.plan_report.proofs.ReportLines.{takes_text-chosen, takes_text-left, takes_text-all}
use Rattle.plan_report.proofs.reports.put_takes.Goals as goal
use Rattle.plan_report.proofs.reports.put_takes.Goals.{then-has+in_ok-put_take, else-has}

pub loop-k-preserved : goal.loop-k-preserved
loop-k-preserved c =
    elim c.if-has.branch [
      | then-has+in_ok-put_take w ↦
          ap (λ v. v.items) w.text-is ∙ w.in_ok-put_take.ensures ∙ ap (λ t. t ++ take_text c.get-candidate.result.now.name) c.loop-k.invariant
          ∙ append_assoc c.args.text.now.items (takes_text (take c.loop-k.k (candidate_names c.args.candidates.now)) c.args.plan.now) (take_text c.get-candidate.result.now.name)
          ∙ ap (λ t. c.args.text.now.items ++ t) (sym (takes_text-chosen c.loop-k.k c.args.candidates.now c.args.plan.now c.get-candidate.result.now c.has.result c.get-candidate.ensures c.has.ensures w.if-has.true))
      | else-has w ↦
          ap (λ v. v.items) w.text-is ∙ c.loop-k.invariant
          ∙ ap (λ t. c.args.text.now.items ++ t) (sym (takes_text-left c.loop-k.k c.args.candidates.now c.args.plan.now c.get-candidate.result.now c.has.result c.get-candidate.ensures c.has.ensures w.if-has.false))
    ]

pub returns : goal.returns
returns c =
    let past : length c.args.candidates.now ≤ c.loop-k.k = omega arith in
    c.loop-k.invariant ∙ ap (λ t. c.args.text.now.items ++ t) (takes_text-all c.loop-k.k c.args.candidates.now c.args.plan.now past)
