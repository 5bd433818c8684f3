use Rattle.std.proofs.Common.{◌≡◌, ◌*◌, ◌≤◌, List, take}
use Rattle.geo_model.specs.declared.network.Unknown.{Unknown}
use Rattle.point_tables.specs.declared.record.PointRecord.{PointRecord}
use Rattle.net_build.specs.Build.{row_count}
use Rattle.net_build.proofs.counts.count_rows.Given as goal

abbrev pub invariant-candidates : goal.invariant-candidates
invariant-candidates l = record {
  rows : (points : List PointRecord) (unknowns : List Unknown) → l.count ≡ row_count points unknowns (take l.place l.candidates);
  few : l.count ≤ 3 * l.place;
}
