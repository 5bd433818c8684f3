use Rattle.geoplan.proofs.PlanOutcome.{Plans-reported, Plans-unwritten, Plans-out, CanReport-solved}
use Rattle.geoplan.proofs.plan.answer_plan.Goals as goal

pub returns-in-Ok : goal.returns-in-Ok
returns-in-Ok g c =
    Plans-reported c.args.tables.now c.args.log.now c.in-Ok.done (g.H.Shelf.state c.args.shelf.now) (g.H.Shelf.state c.solve.new.shelf)
    c.reported.result.status c.reported.result.text.items c.requires c.in-Ok.ensures.solved c.reported.ensures

pub reported-requires-clause-answer : goal.reported-requires-clause-answer
reported-requires-clause-answer g c =
    CanReport-solved c.args.tables.now c.args.log.now c.in-Ok.done (g.H.Shelf.state c.args.shelf.now) (g.H.Shelf.state c.solve.new.shelf) c.in-Ok.ensures.solved

pub returns-in-Err-WriteFault : goal.returns-in-Err-WriteFault
returns-in-Err-WriteFault g c =
    Plans-unwritten c.args.tables.now c.args.log.now c.in-Err-WriteFault.field-0 (g.H.Shelf.state c.args.shelf.now) (g.H.Shelf.state c.solve.new.shelf)
    c.silent.result.status c.silent.result.text.items c.in-Err-WriteFault.ensures.fault c.in-Err-WriteFault.field-0-is c.silent.ensures.status c.silent.ensures.text

pub returns-in-Err-NoMemory : goal.returns-in-Err-NoMemory
returns-in-Err-NoMemory g c =
    Plans-out c.args.tables.now c.args.log.now c.in-Err-NoMemory.field-0 (g.H.Shelf.state c.args.shelf.now) (g.H.Shelf.state c.solve.new.shelf)
    c.silent-in-Err-NoMemory.result.status c.silent-in-Err-NoMemory.result.text.items c.in-Err-NoMemory.ensures.fault c.in-Err-NoMemory.field-0-is c.silent-in-Err-NoMemory.ensures.status c.silent-in-Err-NoMemory.ensures.text
