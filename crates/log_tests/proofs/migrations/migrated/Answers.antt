use Rattle.log_tests.proofs.migrations.migrated.Goals as goal

pub migrate-requires : goal.migrate-requires
migrate-requires c = record { network = c.args.network.now; tree = c.in-Ok.ensures.replayed.tree; log = c.in-Ok.ensures.replayed.log }
