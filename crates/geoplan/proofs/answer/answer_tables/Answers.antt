use Rattle.geoplan.specs.CommandView.{sources_view, command_view}
use Rattle.geoplan.proofs.CommandFacts.{never_reads}
use Rattle.geoplan.proofs.StandLemmas.{IsOutcomeOf-refused}
use Rattle.geoplan.proofs.PlanOutcome.{IsOutcomeOf-plan}
use Rattle.geoplan.proofs.RowsOutcome.{IsOutcomeOf-rows}
use Rattle.geoplan.proofs.CheckOutcome.{IsOutcomeOf-check}
use Rattle.geoplan.proofs.TrialOutcome.{IsOutcomeOf-trial}
use Rattle.geoplan.proofs.MigrateOutcome.{IsOutcomeOf-migrate}
use Rattle.geoplan.proofs.answer.answer_tables.Goals as goal

pub returns-in-Err : goal.returns-in-Err
returns-in-Err g c =
    IsOutcomeOf-refused (command_view c.args.command.now) c.in-Err.why (g.H.Shelf.state c.args.shelf.now) (g.H.Shelf.state c.load.new.shelf)
    c.refuse.result.status c.refuse.result.text.items c.requires.tables c.in-Err.ensures.fault c.refuse.ensures

pub returns-in-Plan : goal.returns-in-Plan
returns-in-Plan g c =
    IsOutcomeOf-plan c.args.command.now.verb (sources_view c.args.command.now.sources) c.in-Ok.tables
    (g.H.Shelf.state c.args.shelf.now) (g.H.Shelf.state c.load.new.shelf) (g.H.Shelf.state c.answer_plan.new.shelf)
    c.answer_plan.result.status c.answer_plan.result.text.items c.in-Plan.is c.in-Ok.ensures.loaded c.answer_plan.ensures

pub returns-in-Rows : goal.returns-in-Rows
returns-in-Rows g c =
    IsOutcomeOf-rows c.args.command.now.verb (sources_view c.args.command.now.sources) c.in-Ok.tables
    (g.H.Shelf.state c.args.shelf.now) (g.H.Shelf.state c.load.new.shelf)
    c.answer_rows.result.status c.answer_rows.result.text.items c.in-Rows.is c.in-Ok.ensures.loaded c.answer_rows.ensures

pub returns-in-Check : goal.returns-in-Check
returns-in-Check g c =
    IsOutcomeOf-check c.args.command.now.verb (sources_view c.args.command.now.sources) c.in-Ok.tables
    (g.H.Shelf.state c.args.shelf.now) (g.H.Shelf.state c.load.new.shelf) (g.H.Shelf.state c.answer_check.new.shelf)
    c.answer_check.result.status c.answer_check.result.text.items c.in-Check.is c.in-Ok.ensures.loaded c.answer_check.ensures

pub returns-in-Trial : goal.returns-in-Trial
returns-in-Trial g c =
    IsOutcomeOf-trial c.args.command.now.verb (sources_view c.args.command.now.sources) c.in-Ok.tables
    (g.H.Shelf.state c.args.shelf.now) (g.H.Shelf.state c.load.new.shelf) (g.H.Shelf.state c.answer_script.new.shelf)
    c.answer_script.result.status c.answer_script.result.text.items c.in-Trial.is c.in-Ok.ensures.loaded c.answer_script.ensures

pub returns-in-Migrate : goal.returns-in-Migrate
returns-in-Migrate g c =
    IsOutcomeOf-migrate c.args.command.now.verb (sources_view c.args.command.now.sources) c.in-Ok.tables
    (g.H.Shelf.state c.args.shelf.now) (g.H.Shelf.state c.load.new.shelf) (g.H.Shelf.state c.answer_migrate.new.shelf)
    c.answer_migrate.result.status c.answer_migrate.result.text.items c.in-Migrate.is c.in-Ok.ensures.loaded c.answer_migrate.ensures

pub unreachable-requires : goal.unreachable-requires
unreachable-requires g c = never_reads c.args.command.now.verb c.in-Gen.is c.requires.tables
