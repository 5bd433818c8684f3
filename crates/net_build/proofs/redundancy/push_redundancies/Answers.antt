use Rattle.std.proofs.Common.{◌≡◌, ◌∙◌, ◌++◌, ◌≤◌, Some, List, sym, ap, arith, length, slice_get}
use Rattle.std.specs.List.{enumerate_from, flat_map}
use Rattle.std.proofs.lemmas.List.{take_all}
use Rattle.std.proofs.lemmas.Option.{slice_get-get_or}
use Rattle.geo_model.specs.Candidate.{CandidateOf}
use Rattle.net_build.specs.Build.{limits_of_candidate, redundancy_limits}
use Rattle.design_rows.proofs.NumberingFacts.{mapped-more}
use Rattle.net_build.proofs.redundancy.push_redundancies.Goals as goal

pub candidates-preserved : goal.candidates-preserved
candidates-preserved c =
    let at : slice_get c.args.candidates.now c.candidates.place ≡ Some c.index-candidates-place.result =
    slice_get-get_or c.args.candidates.now c.candidates.place c.index-candidates-place.result c.candidates-test.true ∙ ap Some (sym c.index-candidates-place.is) in
    mapped-more (limits_of_candidate c.args.q) c.args.limits.now.items c.candidates.limits.items c.push_limits.new.limits.items c.args.candidates.now
    c.candidates.place c.index-candidates-place.result at c.candidates.invariant c.in_ok-push_limits.ensures

pub returns : goal.returns
unfolding redundancy_limits
returns c =
    let past : length c.args.candidates.now ≤ c.candidates.place = omega arith in
    c.candidates.invariant
    ∙ ap (λ (l : List CandidateOf). c.args.limits.now.items ++ flat_map (limits_of_candidate c.args.q) (enumerate_from 0 l)) (take_all c.candidates.place c.args.candidates.now past)
