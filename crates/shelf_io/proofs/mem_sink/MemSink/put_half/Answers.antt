use Rattle.std.proofs.Common.{◌≡◌, ◌/◌, ◌++◌, length, take, Some, ap, sym, ◌∙◌, arith}
use Rattle.std.proofs.lemmas.Grind.{common_steps}
use Rattle.shelf_io.proofs.WrittenLaws.{with_written-told, with_written-nothing}
use Rattle.shelf_io.proofs.mem_sink.MemSink.put_half.Goals as goal

-- the first half was added
pub returns-in-Ok-clause-half : goal.returns-in-Ok-clause-half
returns-in-Ok-clause-half c = λ _.
    let grown : c.extend_from_slice.new.self.items ≡ c.args.self.now.bytes.items ++ take (length c.args.piece.now / 2) c.args.piece.now = grind (arith, common_steps, c.in-Ok.ensures.items) in
    ap Some grown ∙ sym (with_written-told _ _)

pub returns-in-Ok-clause-refused : goal.returns-in-Ok-clause-refused
returns-in-Ok-clause-refused c =
    let grown : c.extend_from_slice.new.self.items ≡ c.args.self.now.bytes.items ++ take (length c.args.piece.now / 2) c.args.piece.now = grind (arith, common_steps, c.in-Ok.ensures.items) in
    (length c.args.piece.now / 2, ap Some grown ∙ sym (with_written-told _ _))

-- nothing of the piece was added
pub returns-in-Err-clause-refused : goal.returns-in-Err-clause-refused
returns-in-Err-clause-refused c = (0, ap Some c.in-Err.ensures.items ∙ sym (with_written-nothing _))
