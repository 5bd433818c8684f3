use Rattle.std.proofs.Common.{◌≡◌, ℕ, ◌+◌, List, ◌++◌, length}
use Rattle.std.specs.Io.KnownBytes.{Consumes}
use Rattle.shelf_io.proofs.transfer.read_most.Given as goal

-- the bytes that the reader gave so far stand at the end, and the room is what is left of the most that may come
abbrev pub invariant-loop-room : goal.invariant-loop-room
invariant-loop-room g l =
    (bytes : List ℕ) × (l.into.items ≡ l.fn.into.items ++ bytes) × (length bytes + l.room ≡ l.most)
    × Consumes (g.R.Read.remaining l.fn.reader) (g.R.Read.remaining l.reader) bytes

abbrev pub decreases-loop-room : goal.decreases-loop-room
decreases-loop-room g l = l.room
