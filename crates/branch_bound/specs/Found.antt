use Rattle.std.specs.Prelude.{◌≡◌, ℕ, ◌<◌, ◌≤◌, ◌⊎◌, ℤ, Bool, List}
use Rattle.geo_model.specs.Energy.{IsWithin}
use Rattle.geo_model.specs.Prices.{price_of}
use Rattle.geo_model.specs.Network.{NetworkOf}
use Rattle.geo_model.specs.declared.answer.Answer.{Answer}
use Rattle.geo_model.specs.declared.answer.Answer.TheVariants as answer
use Rattle.geo_model.specs.declared.plan.Node.{Node}
use Rattle.bound_log.specs.declared.bound.Bound.{Bound}
use Rattle.bound_log.specs.declared.bound.Bound.TheVariants.{NoPlan, AtLeast}
use Rattle.idle_splits.specs.Idle.{IsNoMore}
use Rattle.branch_bound.specs.declared.best.Best.{Best}
use Rattle.branch_bound.specs.declared.best.Best.TheVariants as best
use Rattle.branch_bound.specs.Searched.{IsCertified, IsUnsettled, IsFirstOpen}

-- What the best plan so far says of the plans that were looked at. This project's own.

-- the price of the best plan, as a bound
abbrev pub best_bound : NetworkOf → Best → Bound
best_bound network best.NoPlan = NoPlan
best_bound network (best.Certified plan) = AtLeast (price_of network plan)
best_bound network (best.Unsettled plan) = AtLeast (price_of network plan)

-- the best plan is what it is called
abbrev pub IsTrueBest : NetworkOf → Best → Type 0
IsTrueBest network best.NoPlan = Unit {0}
IsTrueBest network (best.Certified plan) = IsCertified network plan
IsTrueBest network (best.Unsettled plan) = IsUnsettled network plan

-- a price is past the best plan: it is no less than the best one's, and more where that is unsettled
abbrev pub IsPast : NetworkOf → Best → ℕ → Type 0
IsPast network best.NoPlan price = ⊥
IsPast network (best.Certified plan) price = price_of network plan ≤ price
IsPast network (best.Unsettled plan) price = price_of network plan < price

-- a plan is covered by the best one: its price is past it
abbrev pub IsCovered : NetworkOf → Best → List Bool → Type 0
IsCovered network found other = IsPast network found (price_of network other)

-- a price is below a bound
abbrev pub IsBelow : ℕ → Bound → Type 0
IsBelow price NoPlan = Unit {0}
IsBelow price (AtLeast least) = price < least

-- a best plan to start with: none, or one that is certified
abbrev pub IsStart : NetworkOf → Best → Type 0
IsStart network best.NoPlan = Unit {0}
IsStart network (best.Certified plan) = IsCertified network plan
IsStart network (best.Unsettled plan) = ⊥

-- The best plan is brought up to the plans of a node, for which a log proves this bound: its price is no more than the
-- bound, nor than that of the best plan before, and where it is neither the best plan before nor certified the bound is no more
-- than its price; every certified plan of the node is covered, and so is each plan that was.
pub record IsDone (network : NetworkOf) (node : Node) (bound : Bound) (before now : Best) : Type 0 where
  pub price : IsNoMore (best_bound network now) bound
  pub falls : IsNoMore (best_bound network now) (best_bound network before)
  pub reached : (now ≡ before) ⊎ (IsStart network now ⊎ IsNoMore bound (best_bound network now))
  pub kept : IsTrueBest network now
  pub covered : (other : List Bool) → IsCertified network other → IsWithin node.inside other → IsWithin other node.upper → IsCovered network now other
  pub still : (other : List Bool) → IsCovered network before other → IsCovered network now other

-- the best plan stays, or a certified one that costs no more takes its place
pub record IsOffered (network : NetworkOf) (before now : Best) : Type 0 where
  pub same : (now ≡ before) ⊎ IsStart network now
  pub falls : IsNoMore (best_bound network now) (best_bound network before)
  pub kept : IsTrueBest network now
  pub still : (other : List Bool) → IsCovered network before other → IsCovered network now other

-- an unsettled plan is answered with the first limit in force that is open
pub record IsLeftOpen (network : NetworkOf) (plan : List Bool) (made : Answer) : Type 0 where
  pub limit : ℕ
  pub step : ℕ
  pub lo : ℤ
  pub hi : ℤ
  pub says : made ≡ answer.Undecided plan limit step lo hi
  pub open_limit : IsFirstOpen network plan limit step lo hi

-- an answer is the one that the best plan makes
abbrev pub IsAnswerOf : NetworkOf → Best → Answer → Type 0
IsAnswerOf network best.NoPlan made = made ≡ answer.NoPlan
IsAnswerOf network (best.Certified plan) made = made ≡ answer.Best plan
IsAnswerOf network (best.Unsettled plan) made = IsLeftOpen network plan made
