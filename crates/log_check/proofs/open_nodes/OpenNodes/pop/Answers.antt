use Rattle.std.proofs.Common.{ℕ, List, ap, ap₂, ◌∙◌}
use Rattle.geo_model.specs.declared.plan.Node.{Node}
use Rattle.log_check.specs.Places.{OpenOf}
use Rattle.log_check.proofs.PlaceLemmas.{popped}
use Rattle.log_check.proofs.open_nodes.OpenNodes.pop.Goals as goal

pub returns : goal.returns
returns c = λ node rest is.
    let made : ℕ → List Node → OpenOf = λ count nodes. record { candidates = count; nodes = nodes } in
    ap₂ made (ap (λ o. o.candidates) c.self.view_is)
    (popped c.self.inside.places.items node rest c.self.inside.free (ap (λ o. o.nodes) c.self.view_is ∙ is))
