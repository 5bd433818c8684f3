use Rattle.std.proofs.Common.{◌≡◌, take}
use Rattle.std.specs.Prelude.{All}
use Rattle.std.specs.List.{enumerate_from, flat_map}
use Rattle.point_tables.specs.Accepted.{IsAccepted}
use Rattle.net_build.specs.Build.{limits_of_point}
use Rattle.net_build.proofs.point_limits.point_limits.Given as goal

abbrev pub invariant-points : goal.invariant-points
invariant-points l = record {
  limits : l.limits.items ≡ flat_map (limits_of_point l.columns) (enumerate_from 0 (take l.place l.points));
  accepted : All IsAccepted (take l.place l.points);
}
