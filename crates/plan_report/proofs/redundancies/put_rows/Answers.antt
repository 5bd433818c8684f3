use Rattle.std.specs.Prelude.{sum_by}
use Rattle.std.proofs.Common.{rules, ◌≡◌, ◌<◌, ◌≤◌, ◌++◌, [], get_or, length, sym, ◌∙◌, ap, subst, arith}
use Rattle.std.proofs.lemmas.List.{append-nil, take_all}
use Rattle.std.proofs.lemmas.Option.{slice_get_within, same_Some}
use Rattle.geo_model.specs.Candidate.{CandidateOf}
use Rattle.candidate_tables.specs.CandidateTable.{candidate_names}
use Rattle.candidate_tables.specs.declared.record.CandidateRecord.{CandidateRecord}
use Rattle.plan_report.specs.ReportText.{row_redundancy_text}
use Rattle.plan_report.specs.RowsText.{numbered}
use Rattle.plan_report.proofs.LimitPlaces.{as_many}
use Rattle.plan_report.proofs.Numbered.{map-at}
use Rattle.plan_report.proofs.RedundancyLines.{rows_more, rows_within}
use Rattle.plan_report.proofs.redundancies.put_rows.Goals as goal

pub get-requires : goal.get-requires
get-requires c =
    let reported = c.args.reported.now in
    let inside = slice_get_within reported.network.now.candidates c.args.owner c.args.candidate.now c.requires.owner in
    let many = as_many reported.points.now reported.candidates.now reported.q reported.network.now c.requires.reported.network in
    omega (arith, inside, many)

pub rows-init : goal.rows-init
rows-init c = record { room = c.requires.room; text = sym (append-nil c.args.text.now.items) }

pub overflow_cast-place : goal.overflow_cast-place
overflow_cast-place c =
    let candidates = c.args.reported.now.network.now.candidates in
    let size : c.len-place-end.result ≡ length c.args.candidate.now.rows = c.len-place-end.ensures ∙ c.candidate.inside.rows.ok.0 ∙ ap (λ (v : CandidateOf). length v.rows) c.candidate.view_is in
    let test = c.rows-test.true in
    let most : length c.args.candidate.now.rows ≤ sum_by (λ candidate. length candidate.rows) candidates = rows_within candidates c.args.owner c.args.candidate.now c.requires.owner in
    let few : sum_by (λ candidate. length candidate.rows) candidates ≤ 512 = c.candidates-bounds.ensures.bounds.rows in
    search rules

pub put_row-requires-clause-room : goal.put_row-requires-clause-room
put_row-requires-clause-room c = c.rows.invariant.room

pub put_row-requires-clause-owner : goal.put_row-requires-clause-owner
put_row-requires-clause-owner c = slice_get_within c.args.reported.now.network.now.candidates c.args.owner c.args.candidate.now c.requires.owner

pub put_row-requires-clause-row : goal.put_row-requires-clause-row
put_row-requires-clause-row c = λ owner found.
    let size : c.len-place-end.result ≡ length c.args.candidate.now.rows = c.len-place-end.ensures ∙ c.candidate.inside.rows.ok.0 ∙ ap (λ (v : CandidateOf). length v.rows) c.candidate.view_is in
    let test = c.rows-test.true in
    let here : c.rows.place < length c.args.candidate.now.rows = omega arith in
    subst (λ (v : CandidateOf). c.rows.place < length v.rows) (same_Some c.args.candidate.now owner (sym c.requires.owner ∙ found)) here

pub rows-preserved : goal.rows-preserved
rows-preserved c =
    let reported = c.args.reported.now in
    let size : c.len-place-end.result ≡ length c.args.candidate.now.rows = c.len-place-end.ensures ∙ c.candidate.inside.rows.ok.0 ∙ ap (λ (v : CandidateOf). length v.rows) c.candidate.view_is in
    let test = c.rows-test.true in
    let name = map-at (λ (v : CandidateRecord). v.name) reported.candidates.now c.args.owner c.get.result.now [] c.get.ensures in
    record {
      room = c.put_row.ensures.room;
      text = rows_more reported.network.now reported.plan.now reported.q c.args.owner c.rows.place (get_or (candidate_names reported.candidates.now) c.args.owner []) c.get.result.now.name
          reported.network.now.candidates c.args.candidate.now c.args.text.now.items c.rows.text.items c.put_row.new.text.items
          name (omega arith) c.rows.invariant.text (λ row there. c.in_ok-put_row.ensures.text c.args.candidate.now row c.requires.owner there);
    }

pub returns : goal.returns
returns c =
    let reported = c.args.reported.now in
    let size : c.len-place-end.result ≡ length c.args.candidate.now.rows = c.len-place-end.ensures ∙ c.candidate.inside.rows.ok.0 ∙ ap (λ (v : CandidateOf). length v.rows) c.candidate.view_is in
    let test = c.rows-test.false in
    let past : length c.args.candidate.now.rows ≤ c.rows.place = omega arith in
    record {
      text = c.rows.invariant.text
          ∙ ap (λ rs. c.args.text.now.items ++ numbered (row_redundancy_text reported.network.now reported.plan.now reported.q (get_or (candidate_names reported.candidates.now) c.args.owner []) c.args.owner) 0 rs)
          (take_all c.rows.place c.args.candidate.now.rows past);
      room = c.rows.invariant.room;
    }
