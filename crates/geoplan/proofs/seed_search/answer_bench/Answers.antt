use Rattle.std.proofs.Common.{◌∙◌}
use Rattle.geoplan.proofs.BenchOutcome.{Benches-shown}
use Rattle.geoplan.proofs.seed_search.answer_bench.Goals as goal

pub returns-in-Ok : goal.returns-in-Ok
returns-in-Ok c =
    Benches-shown c.args.seed c.in-Ok.shown.is_decided c.in-Ok.shown.text.items c.of.result.text.items c.of.result.status
    c.in-Ok.ensures c.of.ensures.text (c.of.ensures.status ∙ c.bench_status.ensures)
