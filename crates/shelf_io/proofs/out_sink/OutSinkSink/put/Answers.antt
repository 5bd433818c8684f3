use Rattle.std.proofs.Common.{refl}
use Rattle.shelf_io.specs.Written.{with_written}
use Rattle.shelf_io.proofs.out_sink.OutSinkSink.put.Goals as goal

-- nothing is told before or after
pub returns-then-write_whole-clause-added : goal.returns-then-write_whole-clause-added
unfolding with_written
returns-then-write_whole-clause-added g c = refl

pub returns-clause-refused : goal.returns-clause-refused
unfolding with_written
returns-clause-refused g c = (0, refl)
