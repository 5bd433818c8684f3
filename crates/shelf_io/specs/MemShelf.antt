-- What a shelf in memory that fails where it is told to holds and counts. This project's own.
use Rattle.std.specs.Prelude.{Some}
use Rattle.shelf_io.specs.declared.failing_calls.FailingCalls.{FailingCalls}
use Rattle.shelf_io.specs.declared.mem_shelf.MemShelf.{MemShelf}
use Rattle.shelf_io.specs.States.{ShelfState}
use Rattle.shelf_io.specs.Stored.{files_of, started_of}

-- its state: it tells its files always
abbrev pub shelf_state : MemShelf → ShelfState
shelf_state shelf = record {
  held = Some (files_of shelf.stored.files.items);
  faults = shelf.faults.count;
  last_fault = shelf.faults.last;
  started = started_of shelf.stored.files.items shelf.stored.is_started;
}

-- the calls that it counted, and those that are to fail
abbrev pub shelf_calls : MemShelf → FailingCalls
shelf_calls shelf = shelf.calls
