-- How large the grid matrices of the limits of accepted tables are beside their diagonals. This project's own.
use Rattle.std.specs.Prelude.{ℕ, suc, ◌<◌, ◌^◌, List, Bool, All, unsigned_abs}
use Rattle.whole_algebra.specs.Matrices.{at}
use Rattle.whole_algebra.specs.Grid.{row_at}
use Rattle.geo_model.specs.Limit.{LimitOf}
use Rattle.geo_model.specs.Network.{NetworkOf}
use Rattle.limit_forms.specs.Grid.{lower_grid, upper_grid}
use Rattle.point_tables.specs.declared.record.PointRecord.{PointRecord}
use Rattle.candidate_tables.specs.declared.record.CandidateRecord.{CandidateRecord}
use Rattle.net_build.specs.Bounds.{AreTables}
use Rattle.net_build.specs.Build.{network_of}

-- under each plan the entries of both grid matrices of a limit are below 2 ^ 71 in size beside the diagonal
pub record IsSmallBeside (network : NetworkOf) (limit : LimitOf) : Type 0 where
  pub lower : (plan : List Bool) (i k : ℕ) → unsigned_abs (at (row_at (lower_grid network plan limit.alpha limit.squares) i) (suc k)) < 2 ^ 71
  pub upper : (plan : List Bool) (i k : ℕ) → unsigned_abs (at (row_at (upper_grid network plan limit.alpha limit.squares) i) (suc k)) < 2 ^ 71

-- so are those of each limit of the network of accepted tables
abbrev pub BuiltGridsAreSmall : Type 0
BuiltGridsAreSmall =
    (points : List PointRecord) (candidates : List CandidateRecord) (q : ℕ) → AreTables points candidates q →
    All (IsSmallBeside (network_of points candidates q)) (network_of points candidates q).limits
