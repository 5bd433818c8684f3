use Rattle.std.proofs.Common.{ap, ◌∙◌, Err, refl}
use Rattle.branch_bound.specs.declared.search_fault.SearchFault.TheVariants as search
use Rattle.geoplan.proofs.SolveLemmas.{solved-answer, failed-answer, FailsSolve-start}
use Rattle.geoplan.proofs.solve.solve.Goals as goal

pub returns-in-Err-Failed-clause-fault : goal.returns-in-Err-Failed-clause-fault
returns-in-Err-Failed-clause-fault g c =
    FailsSolve-start c.args.tables.now c.args.log.now search.WriteFault
    (g.H.Shelf.state c.args.shelf.now)
    (g.H.Shelf.state c.start.new.self)
    c.in-Err-Failed.ensures.refused c.start.ensures.cause.later (λ is. c.start.ensures.cause.failed (c.in-Err-Failed.is ∙ ap Err c.in-Err-Failed.field-0-is)) (λ is. absurd (cc))

pub returns-in-Err-NoMemory-clause-fault : goal.returns-in-Err-NoMemory-clause-fault
returns-in-Err-NoMemory-clause-fault g c =
    FailsSolve-start c.args.tables.now c.args.log.now search.NoMemory
    (g.H.Shelf.state c.args.shelf.now)
    (g.H.Shelf.state c.start.new.self)
    c.in-Err-NoMemory.ensures.refused c.start.ensures.cause.later (λ is. absurd (cc)) (λ is. c.start.ensures.cause.no_memory (c.in-Err-NoMemory.is ∙ ap Err c.in-Err-NoMemory.field-0-is))

pub returns-clause-solved : goal.returns-clause-solved
returns-clause-solved g c =
    let done = rw c.in-Ok.is at c.start.ensures.cause.done in
    solved-answer c.args.tables.now c.args.log.now
    (g.H.Shelf.state c.args.shelf.now)
    (g.H.Shelf.state c.start.new.self)
    (g.H.Shelf.state c.search.new.shelf)
    c.in-Ok.ensures.empty (done refl) c.search.result (rw c.network.ensures at c.search.ensures.searched)

pub returns-clause-fault : goal.returns-clause-fault
returns-clause-fault g c =
    let done = rw c.in-Ok.is at c.start.ensures.cause.done in
    failed-answer c.args.tables.now c.args.log.now
    (g.H.Shelf.state c.args.shelf.now)
    (g.H.Shelf.state c.start.new.self)
    (g.H.Shelf.state c.search.new.shelf)
    c.in-Ok.ensures.empty (done refl) c.search.result (rw c.network.ensures at c.search.ensures.refused)
