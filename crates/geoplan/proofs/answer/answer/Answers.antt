use Rattle.geoplan.specs.CommandView.{sources_view}
use Rattle.geoplan.proofs.BenchOutcome.{IsOutcomeOf-bench}
use Rattle.geoplan.proofs.CommandFacts.{reads_tables-of}
use Rattle.geoplan.proofs.GenOutcome.{IsOutcomeOf-gen}
use Rattle.geoplan.proofs.answer.answer.Goals as goal

pub returns-in-Gen : goal.returns-in-Gen
returns-in-Gen g c =
    IsOutcomeOf-gen c.args.command.now.verb (sources_view c.args.command.now.sources)
    (g.H.Shelf.state c.args.shelf.now) (g.H.Shelf.state c.answer_gen.new.shelf)
    c.answer_gen.result.status c.answer_gen.result.text.items c.in-Gen.is c.answer_gen.ensures

pub returns-in-Bench : goal.returns-in-Bench
returns-in-Bench g c =
    IsOutcomeOf-bench c.args.command.now.verb (sources_view c.args.command.now.sources) (g.H.Shelf.state c.args.shelf.now)
    c.answer_bench.result.status c.answer_bench.result.text.items c.in-Bench.is c.answer_bench.ensures

pub answer_tables-requires : goal.answer_tables-requires
answer_tables-requires g c = record { redundancy = c.requires.redundancy; tables = reads_tables-of c.args.command.now.verb c.in-Plan.is }
