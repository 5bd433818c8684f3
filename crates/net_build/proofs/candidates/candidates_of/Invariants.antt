use Rattle.std.proofs.Common.{◌≡◌, map, take}
use Rattle.net_build.specs.Build.{candidate_of}
use Rattle.net_build.proofs.candidates.candidates_of.Given as goal

abbrev pub invariant-candidates : goal.invariant-candidates
invariant-candidates l = l.built.items ≡ map (candidate_of l.points l.columns) (take l.place l.candidates)
