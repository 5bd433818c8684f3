use Rattle.std.proofs.Common.{inl, inr}
use Rattle.geoplan.proofs.migrate.answer_migrate.Goals as goal

pub returns-in-Err : goal.returns-in-Err
returns-in-Err g c = inr (c.in-Err.why, c.in-Err.ensures.fault, c.refuse.ensures)

pub returns : goal.returns
returns g c = inl (c.in-Ok.log.items, g.H.Shelf.state c.read_file.new.shelf, c.in-Ok.ensures.read, rw c.as_slice.ensures.value at c.migrate_log.ensures)
