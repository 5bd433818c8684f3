-- The text of a limit, in the lines of a report and of a session. This project's own.
use Rattle.std.specs.Prelude.{ℕ, ◌+◌, List, [], ◌++◌, codes, get_or}
use Rattle.std.specs.Fmt.{decimal}
use Rattle.geo_model.specs.declared.limit.LimitKind.{LimitKind}
use Rattle.geo_model.specs.declared.limit.LimitKind.TheVariants as limit

-- Which limit it is, by the names of the points and of the candidates: the axis or the height of a
-- point, a row of a candidate, counted from 1, or one that was added.
unfoldable pub limit_text : List (List ℕ) → List (List ℕ) → LimitKind → List ℕ
limit_text points candidates (limit.Axis place) = codes "axis," ++ get_or points place []
limit_text points candidates (limit.Height place) = codes "height," ++ get_or points place []
limit_text points candidates (limit.Redundancy owner row) = codes "redundancy," ++ (get_or candidates owner [] ++ (codes "," ++ decimal (row + 1)))
limit_text points candidates (limit.Added number) = codes "added," ++ decimal number
