use Rattle.std.proofs.Common.{◌≡◌, ◌++◌, map, take}
use Rattle.std.specs.List.{enumerate_from}
use Rattle.net_build.specs.Build.{redundancy_limit}
use Rattle.net_build.proofs.redundancy.push_limits.Given as goal

abbrev pub invariant-rows : goal.invariant-rows
invariant-rows l = l.limits.items ≡ l.initial.limits.items ++ map (redundancy_limit l.q l.owner) (enumerate_from 0 (take l.place l.rows))
