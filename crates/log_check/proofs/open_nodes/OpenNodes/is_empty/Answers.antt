use Rattle.std.proofs.Common.{ap}
use Rattle.log_check.proofs.PlaceLemmas.{empty_test}
use Rattle.log_check.proofs.open_nodes.OpenNodes.is_empty.Goals as goal

pub returns : goal.returns
returns c =
    empty_test c.self.inside.places.items c.args.self.now.nodes c.self.inside.free c.self.invariant.many c.self.invariant.within (ap (λ o. o.nodes) c.self.view_is)
