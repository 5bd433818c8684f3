use Rattle.std.proofs.Common.{refl}
use Rattle.shelf_io.specs.Files.{with_bytes}
use Rattle.shelf_io.proofs.file_shelf.FileShelfShelf.start.Goals as goal

-- nothing is told before or after
pub returns-in-Ok-clause-empty : goal.returns-in-Ok-clause-empty
unfolding with_bytes
returns-in-Ok-clause-empty g c = refl
