use Rattle.std.proofs.Common.{◌≡◌, ◌++◌, length, take}
use Rattle.std.specs.List.{enumerate_from, flat_map}
use Rattle.net_build.specs.Build.{limits_of_point}
use Rattle.pivot_chain.specs.Room.{IsRoomOf}
use Rattle.plan_report.specs.ReportText.{point_lines}
use Rattle.plan_report.specs.RowsText.{numbered}
use Rattle.plan_report.proofs.lengths.put_points.Given as goal

abbrev pub invariant-points : goal.invariant-points
invariant-points l = record {
  room : IsRoomOf l.reported.network.now l.room;
  text : l.text.items ≡ l.fn.text.items ++ numbered (point_lines l.reported.network.now l.reported.plan.now) 0 (take l.place l.points);
  number : l.number ≡ length (flat_map (limits_of_point l.reported.network.now.unknowns) (enumerate_from 0 (take l.place l.points)));
}
