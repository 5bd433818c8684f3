use Rattle.std.proofs.Common.{◌≡◌, ◌∙◌, ◌++◌, ◌≤◌, Some, List, map, sym, ap, arith, length, slice_get}
use Rattle.std.specs.List.{enumerate_from}
use Rattle.std.proofs.lemmas.List.{take_all}
use Rattle.std.proofs.lemmas.Option.{slice_get-get_or}
use Rattle.geo_model.specs.Row.{RowOf}
use Rattle.geo_model.specs.Candidate.{CandidateOf}
use Rattle.net_build.specs.Build.{limits_of_candidate, redundancy_limit}
use Rattle.net_build.proofs.StepFacts.{numbered-one}
use Rattle.net_build.proofs.redundancy.push_limits.Goals as goal

pub rows-preserved : goal.rows-preserved
rows-preserved c =
    let at : slice_get c.as_slice-rows.result.now c.rows.place ≡ Some c.index-rows-place.result =
    slice_get-get_or c.as_slice-rows.result.now c.rows.place c.index-rows-place.result c.rows-test.true ∙ ap Some (sym c.index-rows-place.is) in
    numbered-one (redundancy_limit c.args.q c.args.owner) c.args.limits.now.items c.rows.limits.items c.push.new.self.items c.as_slice-rows.result.now
    c.rows.place c.index-rows-place.result _ at c.rows.invariant c.in_ok-push.ensures.items c.in_ok-redundancy_limit.ensures

pub returns : goal.returns
unfolding limits_of_candidate
returns c =
    let past : length c.as_slice-rows.result.now ≤ c.rows.place = omega arith in
    c.rows.invariant
    ∙ ap (λ (l : List RowOf). c.args.limits.now.items ++ map (redundancy_limit c.args.q c.args.owner) (enumerate_from 0 l))
    (take_all c.rows.place c.as_slice-rows.result.now past ∙ c.as_slice-rows.ensures.value ∙ ap (λ (candidate : CandidateOf). candidate.rows) c.candidate.view_is)
