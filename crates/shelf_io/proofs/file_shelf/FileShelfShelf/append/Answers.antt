use Rattle.std.proofs.Common.{refl}
use Rattle.shelf_io.specs.Files.{with_piece}
use Rattle.shelf_io.proofs.file_shelf.FileShelfShelf.append.Goals as goal

-- nothing is told before or after
pub returns-then-write_whole-clause-added : goal.returns-then-write_whole-clause-added
unfolding with_piece
returns-then-write_whole-clause-added g c = refl

pub returns-clause-refused : goal.returns-clause-refused
unfolding with_piece
returns-clause-refused g c = (0, refl)
