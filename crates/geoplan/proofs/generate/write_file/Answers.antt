use Rattle.std.proofs.Common.{refl}
use Rattle.geoplan.proofs.WriteLemmas.{FailsFile-start, written-answer, unwritten-answer}
use Rattle.geoplan.proofs.generate.write_file.Goals as goal

pub returns-in-Err-clause-fault : goal.returns-in-Err-clause-fault
returns-in-Err-clause-fault g c =
    FailsFile-start c.args.name.now c.args.text.now c.in-Err.why c.start.result
    (g.H.Shelf.state c.args.shelf.now) (g.H.Shelf.state c.start.new.self)
    c.in-Err.is c.in-Err.ensures.refused c.start.ensures.cause

pub returns-clause-written : goal.returns-clause-written
returns-clause-written g c =
    let done = rw c.in-Ok.is at c.start.ensures.cause.done in
    written-answer c.args.name.now c.args.text.now
    (g.H.Shelf.state c.args.shelf.now) (g.H.Shelf.state c.start.new.self) (g.H.Shelf.state c.append.new.self)
    c.in-Ok.ensures.empty (done refl) c.append.result c.append.ensures.added c.append.ensures.cause

pub returns-clause-fault : goal.returns-clause-fault
returns-clause-fault g c =
    let done = rw c.in-Ok.is at c.start.ensures.cause.done in
    unwritten-answer c.args.name.now c.args.text.now
    (g.H.Shelf.state c.args.shelf.now) (g.H.Shelf.state c.start.new.self) (g.H.Shelf.state c.append.new.self)
    c.in-Ok.ensures.empty (done refl) c.append.result c.append.ensures.refused c.append.ensures.cause
