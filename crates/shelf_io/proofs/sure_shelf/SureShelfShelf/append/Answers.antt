use Rattle.std.proofs.Common.{Some, ap, sym, ◌∙◌}
use Rattle.shelf_io.specs.Stored.{files_of}
use Rattle.shelf_io.proofs.StoredLaws.{with_piece-started}
use Rattle.shelf_io.proofs.sure_shelf.SureShelfShelf.append.Goals as goal

-- nothing of the piece was added
pub returns-in-Err-clause-refused : goal.returns-in-Err-clause-refused
returns-in-Err-clause-refused c = (
  0,
  ap (λ es. Some (files_of es)) c.in-Err.ensures.refused
      ∙ sym (with_piece-started c.args.self.now.stored.files.items c.args.self.now.stored.is_started c.args.name.now c.requires),
)
