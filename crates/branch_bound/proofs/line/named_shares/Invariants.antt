use Rattle.std.proofs.Common.{◌≡◌, map, take}
use Rattle.bound_log.specs.DualText.{texts_of_shares}
use Rattle.bound_log.specs.Meanings.{found_share, found_use}
use Rattle.bound_log.specs.UseText.{uses_of}
use Rattle.branch_bound.specs.Cuts.{AreCutsFor, named_cuts}
use Rattle.branch_bound.specs.Spelled.{PutsNames}
use Rattle.branch_bound.proofs.line.named_shares.Given as goal

abbrev pub invariant-loop-share : goal.invariant-loop-share
invariant-loop-share l = record {
  names : PutsNames (named_cuts l.initial.cuts) l.initial.out.items l.out.items (named_cuts l.cuts);
  uses : map (found_use (named_cuts l.cuts)) (uses_of l.shares.items) ≡ map found_share (texts_of_shares l.initial.cuts.pool (take l.share-index l.dual.shares.items));
  cuts : AreCutsFor l.network l.cuts;
  pool : l.cuts.pool ≡ l.initial.cuts.pool;
}
