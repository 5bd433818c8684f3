use Rattle.std.proofs.Common.{◌∙◌, ◌++◌, [], ◌∷◌, List, ap₂}
use Rattle.std.specs.Prelude.{ℕ, Option}
use Rattle.station_tables.specs.Occupied.{station_of}
use Rattle.station_tables.proofs.PriceFacts.{mapped-one}
use Rattle.station_tables.proofs.network.candidate_stations.Goals as goal

pub candidates-preserved : goal.candidates-preserved
candidates-preserved c =
    c.in_ok-push.ensures.items
    ∙ ap₂ (λ (l : List (Option ℕ)) (x : Option ℕ). l ++ x ∷ []) c.candidates.invariant c.station_of.ensures
    ∙ mapped-one station_of c.args.candidates.now c.candidates.k c.get.result.now c.get.ensures
