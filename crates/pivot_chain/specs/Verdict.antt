-- The verdict of a plan on a limit: what the interval chains of the limit's two grid matrices tell. This project's own.
use Rattle.std.specs.Prelude.{Bool, List, ℤ}
use Rattle.whole_algebra.specs.Chains.{Outcome, met, refuted, open_at, chains_outcome as outcome_on}
use Rattle.geo_model.specs.Limit.{LimitOf, SquareOf}
use Rattle.geo_model.specs.Network.{NetworkOf}
use Rattle.geo_model.specs.declared.verdict.Verdict.{Verdict}
use Rattle.geo_model.specs.declared.verdict.Verdict.TheVariants.{Met, Refuted, Open}
use Rattle.limit_forms.specs.Grid.{lower_grid, upper_grid}

-- what two chains tell, as a verdict
abbrev pub verdict_from : Outcome → Verdict
verdict_from met = Met
verdict_from refuted = Refuted
verdict_from (open_at step lo hi) = Open step lo hi

-- the verdict of a plan on any limit with this factor and these squares: met where the lower chain of the lower grid matrix
-- doesn't stop, refuted where the upper chain of the upper one stops too, and open otherwise
unfoldable pub verdict_on : NetworkOf → List Bool → ℤ → List SquareOf → Verdict
verdict_on network plan alpha squares =
    verdict_from (outcome_on (lower_grid network plan alpha squares) (upper_grid network plan alpha squares))

-- the verdict of a plan on a limit
unfoldable pub verdict_of : NetworkOf → List Bool → LimitOf → Verdict
verdict_of network plan limit = verdict_on network plan limit.alpha limit.squares
