-- The places of open nodes. This project's own; it serves the proof of the replay, and no public
-- clause cites it.
use Rattle.std.specs.Prelude.{◌≡◌, ℕ, ◌+◌, ◌≤◌, List, [], ◌∷◌, length, All}
use Rattle.geo_model.specs.Network.{NetworkOf}
use Rattle.geo_model.specs.declared.plan.Node.{Node}
use Rattle.bound_log.specs.OpenCount.{open_count}

-- what contracts see of the open nodes: for how many candidates they are, and the nodes, the next
-- one first
pub record OpenOf : Type 0 where
  pub candidates : ℕ
  pub nodes : List Node

-- the plans of a node have so many entries
pub record HasEntries (count : ℕ) (node : Node) : Type 0 where
  pub inside_long : length node.inside ≡ count
  pub upper_long : length node.upper ≡ count

-- there are 257 places, of which the first ones are free, and a spare one
pub record ArePlaces (count : ℕ) (places : List Node) (spare : Node) (free : ℕ) : Type 0 where
  pub many : length places ≡ 257
  pub within : free ≤ 257
  pub long : All (HasEntries count) places
  pub spare_long : HasEntries count spare

-- Each node has an entry for each candidate. With those after it there are at most as many nodes as
-- candidates that it doesn't leave open, and one more.
abbrev pub HasRoom : ℕ → List Node → Type 0
HasRoom count [] = Unit {0}
HasRoom count (node ∷ nodes) = HasEntries count node × (open_count node.inside node.upper + length nodes ≤ count) × HasRoom count nodes

-- the open nodes are nodes of this network, and few enough for their places
pub record IsReady (network : NetworkOf) (stack : OpenOf) : Type 0 where
  pub few : length network.candidates ≤ 256
  pub count : stack.candidates ≡ length network.candidates
  pub room : HasRoom (length network.candidates) stack.nodes
