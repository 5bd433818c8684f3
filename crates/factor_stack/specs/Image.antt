-- The image of a limit under a plan: what a stack of factors stands for. This project's own.
use Rattle.std.specs.Prelude.{ℕ, Bool, if◌then◌else◌, List, length, ℤ, Option, Some, None}
use Rattle.std.specs.List.{list_any, position_or_len}
use Rattle.whole_algebra.specs.Chains.{Step, chain_rows, stops, stop_place, stop_value}
use Rattle.geo_model.specs.Candidate.{CandidateOf}
use Rattle.geo_model.specs.Limit.{LimitOf}
use Rattle.geo_model.specs.Network.{NetworkOf}
use Rattle.limit_forms.specs.Grid.{has_column, order_of, lower_grid, upper_grid}
use Rattle.chain_step.specs.Step.{over_of}
use Rattle.chain_step.specs.declared.side.Side.{Side}
use Rattle.chain_step.specs.declared.side.Side.TheVariants.{Lower, Upper}
use Rattle.pivot_chain.specs.Chain.{chain_of}
use Rattle.pivot_chain.specs.declared.chain.Stop.{Stop}

-- the rows of a chain up to and including its stop, and the stop
pub record ChainOf : Type 0 where
  pub rows : List (List ℤ)
  pub stop : Option Stop

-- where a chain of these steps stops
abbrev pub stop_in : List Step → Option Stop
stop_in steps = if stops steps then Some (record { step = stop_place steps; value = stop_value steps }) else None

-- the chain of a matrix; a chain has no row after its stop
unfoldable pub chain_image : Side → List (List ℤ) → ChainOf
chain_image side matrix = record {
  rows = chain_rows (over_of side) (length matrix) matrix;
  stop = stop_in (chain_of side matrix);
}

-- a plan, and the two chains of a limit under it
pub record ImageOf : Type 0 where
  pub plan : List Bool
  pub lower : ChainOf
  pub upper : ChainOf

-- the image of a limit under a plan
unfoldable pub image_of : NetworkOf → LimitOf → List Bool → ImageOf
image_of network limit plan = record {
  plan = plan;
  lower = chain_image Lower (lower_grid network plan limit.alpha limit.squares);
  upper = chain_image Upper (upper_grid network plan limit.alpha limit.squares);
}

-- whether a candidate touches an unknown: one of its rows has an entry there
abbrev pub touches : CandidateOf → ℕ → Bool
touches candidate unknown = list_any (λ row. has_column row.entries unknown) candidate.rows

-- the first place in the order of a limit whose unknown a candidate touches; the number of unknowns where there is none
abbrev pub first_place : NetworkOf → LimitOf → CandidateOf → ℕ
first_place network limit candidate = position_or_len (touches candidate) (order_of (length network.unknowns) limit.squares)
