use Rattle.std.proofs.Common.{◌≡◌, ◌<◌, length, All}
use Rattle.separation.proofs.separator.Separation.propose.Given as goal

abbrev pub invariant-loop-found : goal.invariant-loop-found
invariant-loop-found l =
    All (λ proposal. (proposal.limit < length l.network.limits) × (length proposal.x ≡ length l.network.unknowns)) l.proposals.items
