use Rattle.shelf_io.proofs.StoredLaws.{with_piece-set}
use Rattle.shelf_io.proofs.stored_files.StoredFiles.append.Goals as goal

pub returns-in-Ok-clause-added : goal.returns-in-Ok-clause-added
returns-in-Ok-clause-added c =
    with_piece-set c.args.self.now.files.items c.args.self.now.is_started _ _ c.index_mut-newest.result.now _ c.requires c.index_mut-newest.ensures.value c.in-Ok.ensures.added
