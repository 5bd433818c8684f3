use Rattle.std.proofs.Common.{◌∷◌, [], length, ◌∙◌, ap, ap₂}
use Rattle.test_networks.proofs.TightNetworks.{two_heights}
use Rattle.test_networks.proofs.tight_networks.two_heights.Goals as goal

pub new-requires : goal.new-requires
new-requires c =
    two_heights c.in_ok-unknowns.unknowns.items c.in_ok-candidates.candidates.items c.in_ok-limits.limits.items
    (ap length c.in_ok-unknowns.ensures.items)
    (c.in_ok-candidates.ensures.items ∙ ap₂ (λ x y. x ∷ y ∷ []) c.in_ok-first.ensures c.in_ok-second.ensures)
    (c.in_ok-limits.ensures.items ∙ ap (λ x. x ∷ []) c.in_ok-limit.ensures)
