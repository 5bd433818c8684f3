use Rattle.std.proofs.Common.{◌≡◌, ◌++◌, take}
use Rattle.std.specs.List.{enumerate_from, flat_map}
use Rattle.net_build.specs.Build.{limits_of_candidate}
use Rattle.net_build.proofs.redundancy.push_redundancies.Given as goal

abbrev pub invariant-candidates : goal.invariant-candidates
invariant-candidates l = l.limits.items ≡ l.initial.limits.items ++ flat_map (limits_of_candidate l.q) (enumerate_from 0 (take l.place l.candidates))
