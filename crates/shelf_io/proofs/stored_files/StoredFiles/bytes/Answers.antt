use Rattle.std.proofs.Common.{sym}
use Rattle.shelf_io.proofs.FileLaws.{bytes_of-held, bytes_of-absent}
use Rattle.shelf_io.proofs.stored_files.StoredFiles.bytes.Goals as goal

pub returns-in-Some : goal.returns-in-Some
returns-in-Some c = sym (bytes_of-held _ _ _ (sym c.in-Some.ensures))

pub returns-in-None : goal.returns-in-None
returns-in-None c = sym (bytes_of-absent _ _ (sym c.in-None.ensures))
