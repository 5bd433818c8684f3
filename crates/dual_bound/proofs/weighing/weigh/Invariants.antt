use Rattle.std.proofs.Common.{take}
use Rattle.geo_model.specs.Prices.{prices_of}
use Rattle.reduced_sums.specs.Weighed.{AreWeighed}
use Rattle.dual_bound.specs.Shares.{weighed_covers}
use Rattle.dual_bound.proofs.weighing.weigh.Given as goal

-- the shares so far are taken off
abbrev pub invariant-loop-share : goal.invariant-loop-share
invariant-loop-share l = record {
  weighed : AreWeighed (prices_of l.network) l.d (weighed_covers l.pool (take l.share-index l.shares)) l.reduced l.paid;
}
