use Rattle.std.proofs.Common.{◌≡◌, drop}
use Rattle.std.specs.Prelude.{fold}
use Rattle.cut_pool.specs.Pool.{cut_key, with_entry}
use Rattle.cut_pool.proofs.pool.cut_key.Given as goal

abbrev pub invariant-loop-entry : goal.invariant-loop-entry
invariant-loop-entry l = fold with_entry l.key (drop l.entry-index l.entry-items) ≡ cut_key l.cut
