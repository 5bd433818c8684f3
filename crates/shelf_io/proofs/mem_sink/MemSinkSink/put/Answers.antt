use Rattle.std.proofs.Common.{Some, ap, sym, ◌∙◌}
use Rattle.shelf_io.proofs.WrittenLaws.{with_written-told, with_written-nothing}
use Rattle.shelf_io.proofs.mem_sink.MemSinkSink.put.Goals as goal

pub returns-in-Ok-clause-added : goal.returns-in-Ok-clause-added
returns-in-Ok-clause-added c = ap Some c.in-Ok.ensures.items ∙ sym (with_written-told _ _)

-- nothing of the piece was added
pub returns-in-Err-clause-refused : goal.returns-in-Err-clause-refused
returns-in-Err-clause-refused c = (0, ap Some c.in-Err.ensures.items ∙ sym (with_written-nothing _))
