use Rattle.std.proofs.Common.{◌≡◌, drop}
use Rattle.std.specs.Ordering.{nat_cmp}
use Rattle.std.specs.Cmp.Lexicographic.{slice_cmp}
use Rattle.std.specs.FinMap.{get, find}
use Rattle.shelf_io.specs.Stored.{files_of}
use Rattle.shelf_io.proofs.stored_files.StoredFiles.file.Given as goal

-- the name is not among the files so far
abbrev pub invariant-loop-file : goal.invariant-loop-file
invariant-loop-file l = get (files_of l.self.files.items) l.name ≡ find (slice_cmp nat_cmp) l.name (drop l.file-index l.file-items)
