use Rattle.std.proofs.Common.{◌∙◌, ◌++◌, [], ◌∷◌, List, ap₂}
use Rattle.geo_model.specs.Candidate.{CandidateOf}
use Rattle.net_build.specs.Build.{candidate_of}
use Rattle.net_build.proofs.StepFacts.{map-one}
use Rattle.net_build.proofs.candidates.candidates_of.Goals as goal

pub candidates-preserved : goal.candidates-preserved
candidates-preserved c =
    c.in_ok-push.ensures.items
    ∙ ap₂ (λ (l : List CandidateOf) (x : CandidateOf). l ++ x ∷ []) c.candidates.invariant c.in_ok-candidate.ensures
    ∙ map-one (candidate_of c.args.points.now c.args.columns.now) c.args.candidates.now c.candidates.place c.get.result.now c.get.ensures
