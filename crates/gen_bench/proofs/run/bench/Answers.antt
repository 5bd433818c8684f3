use Rattle.gen_bench.proofs.BenchLemmas.{some_plan, best_long, open_long, best-answer, open-answer}
use Rattle.gen_bench.proofs.run.bench.Goals as goal

pub shown-requires : goal.shown-requires
shown-requires c =
    best_long c.args.seed c.in_ok-network.network c.in_ok-network.ensures.network c.in_ok-network.ensures.bounds c.in_ok-searched.searched.answer c.in_ok-searched.searched.replayed
    c.in_ok-searched.ensures c.in-Best.plan c.in-Best.is

pub returns-in-Best : goal.returns-in-Best
returns-in-Best c =
    best-answer c.args.seed c.in_ok-network.network c.in_ok-network.ensures.network c.in_ok-network.ensures.bounds c.in_ok-searched.searched.answer c.in_ok-searched.searched.replayed
    c.in_ok-searched.ensures c.in-Best.plan c.in-Best.is c.shown.result c.shown.ensures

pub unreachable-requires : goal.unreachable-requires
unreachable-requires c =
    some_plan c.args.seed c.in_ok-network.network c.in_ok-network.ensures.network c.in_ok-network.ensures.bounds c.in_ok-searched.searched.answer c.in_ok-searched.searched.replayed
    c.in_ok-searched.ensures c.in-NoPlan.is

pub shown-requires-in-Undecided : goal.shown-requires-in-Undecided
shown-requires-in-Undecided c =
    open_long c.args.seed c.in_ok-network.network c.in_ok-network.ensures.network c.in_ok-network.ensures.bounds c.in_ok-searched.searched.answer c.in_ok-searched.searched.replayed
    c.in_ok-searched.ensures c.in-Undecided.plan _ _ _ _ c.in-Undecided.is

pub returns : goal.returns
returns c =
    open-answer c.args.seed c.in_ok-network.network c.in_ok-network.ensures.network c.in_ok-network.ensures.bounds c.in_ok-searched.searched.answer c.in_ok-searched.searched.replayed
    c.in_ok-searched.ensures c.in-Undecided.plan _ _ _ _ c.in-Undecided.is c.shown-in-Undecided.result c.shown-in-Undecided.ensures
