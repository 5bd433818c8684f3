-- Stacks of factors that follow plans. This project's own layout.
use Rattle.std.specs.Prelude.{◌≡◌, ℕ, List, length, Some, slice_get}
use Rattle.geo_model.specs.Network.{NetworkOf}
use Rattle.factor_stack.specs.Stack.{IsStackOf}
use Rattle.verdict_cli.specs.declared.follower.Follower.{Follower}

-- a follower of the limit of this number
pub record IsFollower (network : NetworkOf) (number : ℕ) (follower : Follower) : Type 0 where
  pub made : IsStackOf network follower.stack
  pub limit : follower.stack.limit ≡ number

-- a follower of each of the first limits, so many
pub record AreFollowers (network : NetworkOf) (count : ℕ) (followers : List Follower) : Type 0 where
  pub places : length followers ≡ count
  pub each : (k : ℕ) (follower : Follower) → slice_get followers k ≡ Some follower → IsFollower network k follower
