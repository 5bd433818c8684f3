use Rattle.std.proofs.Common.{◌++◌, length, sym, ◌∙◌, ap, arith}
use Rattle.std.proofs.lemmas.List.{append-nil, take_all}
use Rattle.candidate_tables.specs.CandidateTable.{candidate_names}
use Rattle.pivot_chain.proofs.Values.{found_at}
use Rattle.plan_report.specs.ReportText.{chosen_text}
use Rattle.plan_report.specs.RowsText.{numbered}
use Rattle.plan_report.proofs.Numbered.{numbered-grows}
use Rattle.plan_report.proofs.redundancies.put_redundancies.Goals as goal

pub offers-init : goal.offers-init
offers-init c = record { room = c.requires.room; text = sym (append-nil c.args.text.now.items) }

pub put_candidate-requires-clause-room : goal.put_candidate-requires-clause-room
put_candidate-requires-clause-room c = c.offers.invariant.room

pub put_candidate-requires-clause-owner : goal.put_candidate-requires-clause-owner
put_candidate-requires-clause-owner c =
    let test = c.offers-test.true in
    let many = ap length c.candidates-offered.ensures.value in
    found_at c.args.reported.now.network.now.candidates c.candidates-offered.result.now c.offers.owner c.index-offered-owner.result c.candidates-offered.ensures.value (omega (arith, many)) c.index-offered-owner.is

pub offers-preserved : goal.offers-preserved
offers-preserved c =
    let reported = c.args.reported.now in
    record {
      room = c.put_candidate.ensures.room;
      text = numbered-grows (chosen_text reported.network.now reported.plan.now reported.q (candidate_names reported.candidates.now)) 0 c.offers.owner c.offers.owner c.candidates-offered.result.now c.index-offered-owner.result
          c.args.text.now.items c.offers.text.items c.put_candidate.new.text.items
          c.offers-test.true c.index-offered-owner.is (omega arith) c.offers.invariant.text c.in_ok-put_candidate.ensures.text;
    }

pub returns : goal.returns
returns c =
    let reported = c.args.reported.now in
    record {
      text = c.offers.invariant.text
          ∙ ap (λ cs. c.args.text.now.items ++ numbered (chosen_text reported.network.now reported.plan.now reported.q (candidate_names reported.candidates.now)) 0 cs)
          (take_all c.offers.owner c.candidates-offered.result.now c.offers-test.false ∙ c.candidates-offered.ensures.value);
      room = c.offers.invariant.room;
    }
