use Rattle.std.specs.Prelude.{◌≡◌, ℕ, ◌<◌, List, Bool, length, Some, slice_get}
use Rattle.std.specs.Option.{ForSome}
use Rattle.geo_model.specs.Limit.{LimitOf}
use Rattle.geo_model.specs.Network.{NetworkOf}
use Rattle.geo_model.specs.declared.plan.Node.{Node}
use Rattle.bound_log.specs.LogTree.{IsNodeRefutedBy}
use Rattle.branch_bound.specs.Searched.{IsMetAt}
use Rattle.branch_bound.specs.declared.inherited.Inherited.{Inherited}

-- What a node inherits from its parent. This project's own.

-- the limit of a number is the candidate's own
abbrev pub IsOwnedBy : NetworkOf → ℕ → ℕ → Type 0
IsOwnedBy network number candidate = (limit : LimitOf) → slice_get network.limits number ≡ Some limit → limit.owner ≡ Some candidate

-- a plan isn't met on the limit of a number, which is in force for it
pub record IsUnmetAt (network : NetworkOf) (plan : List Bool) (number : ℕ) : Type 0 where
  pub inside : number < length network.limits
  pub unmet : IsMetAt network plan number → ⊥

-- what a node inherits holds there
pub record IsInherited (network : NetworkOf) (node : Node) (inherited : Inherited) : Type 0 where
  pub chosen : ForSome inherited.chosen (λ candidate. (k : ℕ) → IsNodeRefutedBy network node k → IsOwnedBy network k candidate)
  pub unmet : ForSome inherited.unmet (λ limit. IsUnmetAt network node.inside limit)
