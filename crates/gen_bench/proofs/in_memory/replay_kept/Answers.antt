use Rattle.std.proofs.Common.{ap, refl}
use Rattle.std.specs.Option.{option_copied}
use Rattle.gen_bench.proofs.SearchLemmas.{is_kept, never_refused, answer_found}
use Rattle.gen_bench.proofs.in_memory.replay_kept.Goals as goal

pub unreachable-requires : goal.unreachable-requires
unreachable-requires c = is_kept c.args.network.now c.args.done c.args.shelf.now c.requires _ (c.file.ensures _ refl) (ap option_copied c.in-None.is)

pub unreachable-requires-in-Err-Fault : goal.unreachable-requires-in-Err-Fault
unreachable-requires-in-Err-Fault c =
    never_refused c.args.network.now c.args.done c.args.shelf.now c.requires c.in-Some.log.now (c.in-Some.ensures _ refl)
    c.in-Err-Fault.field-0 _ c.in-Err-Fault.ensures.fault c.in-Err-Fault.field-0-is

pub returns-in-Ok : goal.returns-in-Ok
returns-in-Ok c =
    answer_found c.args.network.now c.args.done c.args.shelf.now c.requires c.in-Some.log.now (c.in-Some.ensures _ refl)
    c.in-Ok.replayed c.in-Ok.ensures.replayed
