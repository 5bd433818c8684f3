use Rattle.std.proofs.Common.{ap, ◌∙◌, Err, refl}
use Rattle.gen_bench.proofs.SearchLemmas.{never_rose, log_held}
use Rattle.gen_bench.proofs.in_memory.search_kept.Goals as goal

pub unreachable-requires : goal.unreachable-requires
unreachable-requires c = never_rose (c.start.ensures.cause.failed (c.in-Err-Failed.is ∙ ap Err c.in-Err-Failed.field-0-is)).0

pub unreachable-requires-in-Err-WriteFault : goal.unreachable-requires-in-Err-WriteFault
unreachable-requires-in-Err-WriteFault c = never_rose (c.in-Err-WriteFault.ensures.refused.broken.failed c.in-Err-WriteFault.field-0-is).0

pub returns-in-Ok-search : goal.returns-in-Ok-search
returns-in-Ok-search c =
    log_held c.args.network.now c.in-Ok-search.done _ _ c.search.new.shelf _ _ refl refl c.in-Ok.ensures.empty c.in-Ok-search.ensures.searched
