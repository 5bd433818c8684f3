use Rattle.std.specs.Prelude.{◌≡◌, ◌≢◌, ℕ, ◌<◌, ℤ, pos, ◌≤ℤ◌, Bool, List, length, Some, slice_get}
use Rattle.geo_model.specs.Prices.{price_of}
use Rattle.geo_model.specs.Limit.{LimitOf, IsInForce}
use Rattle.geo_model.specs.Network.{NetworkOf}
use Rattle.geo_model.specs.Verdicts.{IsUnsettledBy}
use Rattle.geo_model.specs.declared.answer.Answer.{Answer}
use Rattle.geo_model.specs.declared.answer.Answer.TheVariants as answer
use Rattle.geo_model.specs.declared.answer.SearchDone.{SearchDone}
use Rattle.geo_model.specs.declared.verdict.Verdict.TheVariants.{Open}
pub use Rattle.pivot_chain.specs.Certified.{IsCertified, IsMetAt}
use Rattle.pivot_chain.specs.Verdict.{verdict_of}
use Rattle.bound_log.specs.declared.bound.Bound.{Bound}
use Rattle.bound_log.specs.declared.bound.Bound.TheVariants.{NoPlan, AtLeast}
use Rattle.bound_log.specs.Counted.{counts_of}
use Rattle.bound_log.specs.LogTree.{root_of, IsAllowed, bound_at}
use Rattle.bound_log.specs.Placed.{placed}
use Rattle.bound_log.specs.Tree.{Tree, tree_lines}
use Rattle.idle_splits.specs.NoIdle.{NoSplitIsIdle}

-- What a search answers, and what its log says. This project's own.

-- a plan of the network that is unsettled: neither certified nor refuted
pub record IsUnsettled (network : NetworkOf) (plan : List Bool) : Type 0 where
  pub long : length plan ≡ length network.candidates
  pub unsettled : IsUnsettledBy (verdict_of network) network plan

-- the limit of a number is in force for the plan, and its verdict is Open, with this step and interval
pub record IsOpenLimit (network : NetworkOf) (plan : List Bool) (number step : ℕ) (lo hi : ℤ) : Type 0 where
  pub limit : LimitOf
  pub named : slice_get network.limits number ≡ Some limit
  pub in_force : IsInForce limit plan
  pub open_here : verdict_of network plan limit ≡ Open step lo hi

-- a certified plan whose price is the bound
pub record IsBest (network : NetworkOf) (bound : Bound) (plan : List Bool) : Type 0 where
  pub certified : IsCertified network plan
  pub price : bound ≡ AtLeast (price_of network plan)

-- the first limit in force for a plan whose verdict is Open, with its step and interval
pub record IsFirstOpen (network : NetworkOf) (plan : List Bool) (number step : ℕ) (lo hi : ℤ) : Type 0 where
  pub here : IsOpenLimit network plan number step lo hi
  pub first : (k : ℕ) (earlier : LimitOf) → k < number → slice_get network.limits k ≡ Some earlier → IsInForce earlier plan → (s : ℕ) (a b : ℤ) → verdict_of network plan earlier ≢ Open s a b
  pub low : lo ≤ℤ pos 0
  pub high : pos 0 ≤ℤ hi

-- an unsettled plan whose price is the bound, where every certified plan costs more
pub record IsUndecided (network : NetworkOf) (bound : Bound) (plan : List Bool) (limit step : ℕ) (lo hi : ℤ) : Type 0 where
  pub unsettled : IsUnsettled network plan
  pub price : bound ≡ AtLeast (price_of network plan)
  pub dearer : (other : List Bool) → IsCertified network other → price_of network plan < price_of network other
  pub open_limit : IsFirstOpen network plan limit step lo hi

-- an answer fits a bound
abbrev pub IsAnswer : NetworkOf → Bound → Answer → Type 0
IsAnswer network bound (answer.Best plan) = IsBest network bound plan
IsAnswer network bound answer.NoPlan = bound ≡ NoPlan
IsAnswer network bound (answer.Undecided plan limit step lo hi) = IsUndecided network bound plan limit step lo hi

-- a search is done: its log is a tree that the network allows, with its lines counted and no idle split among them, and
-- its answer fits the bound
pub record IsSearched (network : NetworkOf) (tree : Tree) (done : SearchDone) : Type 0 where
  pub allowed : IsAllowed network (root_of network) tree
  pub counted : done.counts ≡ counts_of (tree_lines tree)
  pub no_idle : NoSplitIsIdle network (placed (root_of network) tree)
  pub answered : IsAnswer network (bound_at network (root_of network) tree) done.answer
