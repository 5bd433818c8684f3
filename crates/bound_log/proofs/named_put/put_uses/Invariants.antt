use Rattle.std.proofs.Common.{drop}
use Rattle.bound_log.specs.CutSpelling.{uses_text}
use Rattle.bound_log.specs.UseText.{uses_of}
use Rattle.bound_log.proofs.CutSpellLemmas.{Put}
use Rattle.bound_log.proofs.named_put.put_uses.Given as goal

abbrev pub invariant-loop-share : goal.invariant-loop-share
invariant-loop-share l = Put l.initial.out.items (uses_text (uses_of l.shares)) l.out.items (uses_text (uses_of (drop l.share-index l.shares)))
