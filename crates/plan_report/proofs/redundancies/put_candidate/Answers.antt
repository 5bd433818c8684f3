use Rattle.std.proofs.Common.{rules, arith}
use Rattle.std.proofs.lemmas.Option.{slice_get_within}
use Rattle.candidate_tables.specs.CandidateTable.{candidate_names}
use Rattle.plan_report.proofs.RedundancyLines.{chosen_is, left_is}
use Rattle.plan_report.proofs.redundancies.put_candidate.Goals as goal

pub has-requires : goal.has-requires
has-requires c =
    let inside = slice_get_within c.args.reported.now.network.now.candidates c.args.owner c.args.candidate.now c.requires.owner in
    let long = c.requires.reported.long in
    omega (arith, inside, long)

pub returns-then-not-has : goal.returns-then-not-has
returns-then-not-has c =
    let reported = c.args.reported.now in
    record {
      text = left_is reported.network.now reported.plan.now reported.q c.args.owner (candidate_names reported.candidates.now) c.args.candidate.now c.has.result c.args.text.now.items c.has.ensures (search (rules, c.if-not-has.true));
      room = c.requires.room;
    }

pub returns : goal.returns
returns c =
    let reported = c.args.reported.now in
    record {
      text = chosen_is reported.network.now reported.plan.now reported.q c.args.owner (candidate_names reported.candidates.now) c.args.candidate.now c.has.result c.args.text.now.items c.put_rows.new.text.items c.has.ensures (search (rules, c.if-not-has.false)) c.in_ok-put_rows.ensures.text;
      room = c.put_rows.ensures.room;
    }
