use Rattle.std.specs.Prelude.{ℕ, true, false, replicate}
use Rattle.geo_model.specs.declared.plan.Node.{Node}

-- Nodes of a search: a node stands for all plans that contain its inner plan and lie in its upper one.
-- This project's own.

-- the node of all plans of so many candidates
abbrev pub all_plans : ℕ → Node
all_plans count = record { inside = replicate count false; upper = replicate count true }
