use Rattle.geoplan.proofs.MigrateOutcome.{Migrates-none, Migrates-many, Migrates-written, Migrates-unwritten, Migrates-stopped}
use Rattle.geoplan.proofs.migrate.write_new_log.Goals as goal

pub returns-in-Err-TooManyCuts : goal.returns-in-Err-TooManyCuts
returns-in-Err-TooManyCuts g c = λ tables done good replayed.
    Migrates-many tables c.args.name.now c.args.log.now done good.bounds replayed c.made.result.status c.made.result.text.items
    (g.H.Shelf.state c.args.shelf.now) c.in-Err-TooManyCuts.field-0 c.cuts_refusal.result c.in-Err-TooManyCuts.field-0-is
    (c.in-Err-TooManyCuts.ensures.cause tables.network replayed.tree replayed.log) c.cuts_refusal.ensures c.made.ensures

pub returns-in-Err-NoMemory : goal.returns-in-Err-NoMemory
returns-in-Err-NoMemory g c = λ tables done good replayed.
    Migrates-none tables c.args.name.now c.args.log.now (g.H.Shelf.state c.args.shelf.now)
    c.silent.result.status c.silent.result.text.items c.silent.ensures.status c.silent.ensures.text

pub returns-in-Ok-write_file : goal.returns-in-Ok-write_file
returns-in-Ok-write_file g c = λ tables done good replayed.
    Migrates-written tables c.args.name.now c.args.log.now done good.bounds replayed c.made-in-Ok-write_file.result.status c.made-in-Ok-write_file.result.text.items
    c.in-Ok.new_log.items (c.in-Ok.ensures.migrated tables.network replayed.tree replayed.log)
    (g.H.Shelf.state c.args.shelf.now) (g.H.Shelf.state c.write_file.new.shelf)
    c.migrated.result (rw c.as_slice.ensures.value at c.in-Ok-write_file.ensures.written) c.migrated.ensures c.made-in-Ok-write_file.ensures

pub returns-in-Err-Failed : goal.returns-in-Err-Failed
returns-in-Err-Failed g c = λ tables done good replayed.
    Migrates-unwritten tables c.args.name.now c.args.log.now done good.bounds replayed c.silent-in-Err-Failed.result.status c.silent-in-Err-Failed.result.text.items
    c.in-Ok.new_log.items (c.in-Ok.ensures.migrated tables.network replayed.tree replayed.log)
    (g.H.Shelf.state c.args.shelf.now) (g.H.Shelf.state c.write_file.new.shelf)
    c.in-Err-Failed.field-0 (rw c.as_slice.ensures.value at c.in-Err-Failed.ensures.fault) c.in-Err-Failed.field-0-is
    c.silent-in-Err-Failed.ensures.status c.silent-in-Err-Failed.ensures.text

pub returns : goal.returns
returns g c = λ tables done good replayed.
    Migrates-stopped tables c.args.name.now c.args.log.now done good.bounds replayed c.silent-in-Err-NoMemory-write_file.result.status c.silent-in-Err-NoMemory-write_file.result.text.items
    c.in-Ok.new_log.items (c.in-Ok.ensures.migrated tables.network replayed.tree replayed.log)
    (g.H.Shelf.state c.args.shelf.now) (g.H.Shelf.state c.write_file.new.shelf)
    c.in-Err-NoMemory-write_file.field-0 (rw c.as_slice.ensures.value at c.in-Err-NoMemory-write_file.ensures.fault) c.in-Err-NoMemory-write_file.field-0-is
    c.silent-in-Err-NoMemory-write_file.ensures.status c.silent-in-Err-NoMemory-write_file.ensures.text
