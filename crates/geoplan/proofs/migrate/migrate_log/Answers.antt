use Rattle.geoplan.proofs.MigrateOutcome.{Migrates-none, Migrates-fault}
use Rattle.geoplan.proofs.migrate.migrate_log.Goals as goal

pub write_new_log-requires : goal.write_new_log-requires
write_new_log-requires g c = record { network = c.network.result.now; tree = c.in-Ok.ensures.replayed.tree; log = c.in-Ok.ensures.replayed.log }

pub returns-in-Ok : goal.returns-in-Ok
returns-in-Ok g c = c.write_new_log.ensures c.args.tables.now _ c.requires (rw c.network.ensures at c.in-Ok.ensures.replayed)

pub returns-in-Err-Fault : goal.returns-in-Err-Fault
returns-in-Err-Fault g c =
    Migrates-fault c.args.tables.now c.args.name.now c.args.log.now (g.H.Shelf.state c.args.shelf.now) c.made.result.status c.made.result.text.items
    c.in-Err-Fault.fault c.log_refusal.result c.requires.bounds (rw (c.network.ensures, c.in-Err-Fault.field-0-is) at c.in-Err-Fault.ensures.fault) c.log_refusal.ensures c.made.ensures

pub returns-in-Err-NoMemory : goal.returns-in-Err-NoMemory
returns-in-Err-NoMemory g c =
    Migrates-none c.args.tables.now c.args.name.now c.args.log.now (g.H.Shelf.state c.args.shelf.now)
    c.silent.result.status c.silent.result.text.items c.silent.ensures.status c.silent.ensures.text
