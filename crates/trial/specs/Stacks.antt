-- What a session keeps: a stack of factors for each limit, of the session's plans.
-- This project's own layout.
use Rattle.std.specs.Prelude.{◌≡◌, ℕ, ◌<◌, ◌≤◌, ◌^◌, Bool, not, List, [], ◌∷◌, ◌++◌, All, length, map, Some, slice_get, slice_set}
use Rattle.std.specs.List.{AllZip, range_with_len}
use Rattle.geo_model.specs.Network.{NetworkOf}
use Rattle.factor_stack.specs.Stack.{StackOf, IsStackOf}
use Rattle.trial.specs.declared.session.Session.{Session}
use Rattle.trial.specs.Session.{SessionOf}

-- ---- one stack

-- the plans before the changes of a stack
abbrev pub plans_before : StackOf → List (List Bool)
plans_before stack = map (λ image. image.plan) stack.before

-- a stack is that of the limit of this number, with a plan and the plans before its changes
pub record IsStackAt (network : NetworkOf) (plan : List Bool) (before : List (List Bool)) (number : ℕ) (stack : StackOf) : Type 0 where
  pub made : IsStackOf network stack
  pub limit : stack.limit ≡ number
  pub holds : stack.now.plan ≡ plan
  pub keeps : plans_before stack ≡ before

-- a candidate can be chosen, or left out
pub record CanChange (network : NetworkOf) (i : ℕ) (chosen : Bool) (stack : StackOf) : Type 0 where
  pub made : IsStackOf network stack
  pub differs : slice_get stack.now.plan i ≡ Some (not chosen)
  pub depth : length stack.before < 2 ^ 31

-- a candidate is chosen, or left out
pub record IsChanged (network : NetworkOf) (i : ℕ) (chosen : Bool) (old new : StackOf) : Type 0 where
  pub made : IsStackOf network new
  pub limit : new.limit ≡ old.limit
  pub plan : new.now.plan ≡ slice_set old.now.plan i chosen
  pub before : new.before ≡ old.before ++ old.now ∷ []

-- the latest change is taken back
pub record IsUndone (old new : StackOf) : Type 0 where
  pub made : (network : NetworkOf) → IsStackOf network old → IsStackOf network new
  pub limit : new.limit ≡ old.limit
  pub before : old.before ≡ new.before ++ new.now ∷ []

-- ---- a stack for each limit

-- stacks of the first limits, so many
abbrev pub AreStacks : NetworkOf → List Bool → List (List Bool) → ℕ → List StackOf → Type 0
AreStacks network plan before count stacks = AllZip (IsStackAt network plan before) (range_with_len 0 count) stacks

-- ---- a session

-- the session that is kept
abbrev pub session_of : Session → SessionOf
session_of session = record { plan = session.plan; before = session.before.items; shows = session.shows }

-- a session of a network
pub record IsSessionOf (network : NetworkOf) (session : Session) : Type 0 where
  pub plan : length session.plan ≡ length network.candidates
  pub before : All (λ plan. length plan ≡ length network.candidates) session.before.items
  pub few : length session.before.items ≤ 32
  pub shows : session.shows ≤ 256
  pub stacks : AreStacks network session.plan session.before.items (length network.limits) session.stacks.items
