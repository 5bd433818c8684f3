use Rattle.std.proofs.Common.{◌≡◌, negsuc, true, false, length, ap, ◌∙◌, sym, subst, arith}
use Rattle.std.specs.Prelude.{slice_set}
use Rattle.lent_parts.specs.Triangle.{IsTri}
use Rattle.lent_parts.proofs.Triangles.{length-IsTri}
use Rattle.geo_model.specs.Candidate.{CandidateOf}
use Rattle.normal_matrix.specs.Normal.{NormalOf}
use Rattle.normal_matrix.proofs.PlanSteps.{got_inside, rows_of_candidate, entry_is_small, IsNormalOf-changed, part_left_out}
use Rattle.normal_matrix.proofs.normal.Normal.remove.Goals as goal

pub add_rows-requires-clause-size : goal.add_rows-requires-clause-size
add_rows-requires-clause-size c i j =
    let rows : c.self.inside.sums ≡ c.args.self.now.rows = ap (λ (v : NormalOf). v.rows) c.self.view_is in
    entry_is_small c.args.network.now c.args.self.now c.self.inside.sums i j c.candidates.ensures.bounds c.requires.made rows

pub add_rows-requires-clause-few : goal.add_rows-requires-clause-few
add_rows-requires-clause-few c =
    let places = c.requires.made.places in
    let inside = got_inside c.args.self.now.plan c.args.i true c.requires.present in
    let rows = c.as_slice.ensures.value ∙ ap (λ (v : CandidateOf). v.rows) c.candidate.view_is in
    (rows_of_candidate c.args.network.now c.candidates.result.now c.args.i c.index-candidates-i.result c.as_slice.result.now c.candidates.ensures.bounds c.candidates.ensures.value (omega arith) c.index-candidates-i.is rows).few

pub add_rows-requires-clause-each_row : goal.add_rows-requires-clause-each_row
add_rows-requires-clause-each_row c =
    let places = c.requires.made.places in
    let inside = got_inside c.args.self.now.plan c.args.i true c.requires.present in
    let rows = c.as_slice.ensures.value ∙ ap (λ (v : CandidateOf). v.rows) c.candidate.view_is in
    (rows_of_candidate c.args.network.now c.candidates.result.now c.args.i c.index-candidates-i.result c.as_slice.result.now c.candidates.ensures.bounds c.candidates.ensures.value (omega arith) c.index-candidates-i.is rows).each_row

pub add_rows-requires-clause-columns : goal.add_rows-requires-clause-columns
add_rows-requires-clause-columns c =
    let places = c.requires.made.places in
    let inside = got_inside c.args.self.now.plan c.args.i true c.requires.present in
    let rows = c.as_slice.ensures.value ∙ ap (λ (v : CandidateOf). v.rows) c.candidate.view_is in
    let size : length c.self.inside.sums ≡ length c.args.network.now.unknowns = ap (λ (v : NormalOf). length v.rows) c.self.view_is ∙ c.requires.made.size in
    rw size ((rows_of_candidate c.args.network.now c.candidates.result.now c.args.i c.index-candidates-i.result c.as_slice.result.now c.candidates.ensures.bounds c.candidates.ensures.value (omega arith) c.index-candidates-i.is rows).columns)

pub set-requires : goal.set-requires
set-requires c =
    let inside = got_inside c.args.self.now.plan c.args.i true c.requires.present in
    let plan : length c.self.inside.plan ≡ length c.args.self.now.plan = ap (λ (v : NormalOf). length v.plan) c.self.view_is in
    omega arith

pub returns-clause-sum : goal.returns-clause-sum
returns-clause-sum c =
    let rows : c.self.inside.sums ≡ c.args.self.now.rows = ap (λ (v : NormalOf). v.rows) c.self.view_is in
    let listed = c.as_slice.ensures.value ∙ ap (λ (v : CandidateOf). v.rows) c.candidate.view_is in
    let plan : c.set.new.self ≡ slice_set c.args.self.now.plan c.args.i false = c.set.ensures ∙ ap (λ (v : NormalOf). slice_set v.plan c.args.i false) c.self.view_is in
    IsNormalOf-changed c.args.network.now c.args.self.now c.self.inside.sums c.add_rows.new.sums c.set.new.self c.candidates.result.now c.args.i c.index-candidates-i.result c.as_slice.result.now true false (negsuc 0)
    c.requires.made rows plan c.requires.present c.add_rows.ensures.size c.candidates.ensures.value c.index-candidates-i.is listed c.add_rows.ensures.sum (part_left_out c.index-candidates-i.result)
