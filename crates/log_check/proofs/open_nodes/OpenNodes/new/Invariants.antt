use Rattle.std.proofs.Common.{◌≡◌, replicate}
use Rattle.geo_model.specs.Nodes.{all_plans}
use Rattle.log_check.proofs.open_nodes.OpenNodes.new.Given as goal

abbrev pub invariant-loop-place : goal.invariant-loop-place
invariant-loop-place l = l.places.items ≡ replicate l._place (all_plans l.count)
