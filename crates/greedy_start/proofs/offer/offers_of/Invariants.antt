use Rattle.std.proofs.Common.{◌<◌, length, All}
use Rattle.greedy_start.proofs.offer.offers_of.Given as goal

abbrev pub invariant-loop-i : goal.invariant-loop-i
invariant-loop-i l = All (λ offer. offer.candidate < length l.fn.network.candidates) l.offers.items
