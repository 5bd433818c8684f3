-- A stack of factors. This project's own.
use Rattle.std.specs.Prelude.{◌≡◌, ℕ, ◌<◌, ◌≤◌, ◌^◌, List, length, reverse, Some, slice_get, All}
use Rattle.geo_model.specs.Limit.{LimitOf}
use Rattle.geo_model.specs.Network.{NetworkOf}
use Rattle.normal_matrix.specs.Normal.{NormalOf, IsNormalOf}
use Rattle.limit_forms.specs.Grid.{GridOf, grid_of}
use Rattle.factor_stack.specs.declared.held.Held.{Held}
use Rattle.factor_stack.specs.declared.held.Saved.{Saved}
use Rattle.factor_stack.specs.declared.run.GridRows.{GridRows}
use Rattle.factor_stack.specs.Image.{ImageOf, image_of}
use Rattle.factor_stack.specs.Stored.{AreHeldFactors, AreCounted, IsSaved}
use Rattle.factor_stack.specs.Running.{IsRoom}

-- a stack: the number of its limit, the images before its changes, the oldest first, and the one after them; and what it
-- reckons from, a normal matrix of some plan and the grid of the limit
pub record StackOf : Type 0 where
  pub limit : ℕ
  pub before : List ImageOf
  pub now : ImageOf
  pub normal : NormalOf
  pub grid : GridOf

-- an image is that of its plan, under a limit of a network
pub record IsImage (network : NetworkOf) (limit : LimitOf) (image : ImageOf) : Type 0 where
  pub places : length image.plan ≡ length network.candidates
  pub exact : image ≡ image_of network limit image.plan

-- the stack is one for a limit of this network: each of its images is that of its plan
pub record IsStackOf (network : NetworkOf) (stack : StackOf) : Type 0 where
  pub limit : stack.limit < length network.limits
  pub normal : IsNormalOf network stack.normal
  pub grid : (limit : LimitOf) → slice_get network.limits stack.limit ≡ Some limit → stack.grid ≡ grid_of network limit.alpha limit.squares
  pub now : (limit : LimitOf) → slice_get network.limits stack.limit ≡ Some limit → IsImage network limit stack.now
  pub before : (limit : LimitOf) → slice_get network.limits stack.limit ≡ Some limit → All (IsImage network limit) stack.before

-- what a stack keeps of what it stores: rows for n unknowns
pub record IsKeptStack (n : ℕ) (held : Held) (room : GridRows) (saves : List Saved) : Type 0 where
  pub held_rows : AreHeldFactors n held.factors
  pub room_rows : IsRoom n room
  pub few : length saves ≤ 2 ^ 31
  pub each : All (IsSaved n (length held.plan)) saves
  pub counted : AreCounted n held (reverse saves)
