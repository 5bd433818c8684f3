use Rattle.std.proofs.Common.{◌≡◌, pos, length, replicate, take}
use Rattle.log_check.proofs.moves.clear.Given as goal

-- the unknowns so far don't move
abbrev pub invariant-loop-i : goal.invariant-loop-i
invariant-loop-i l = (length l.x ≡ l.fn.unknowns) × (take l.i l.x ≡ replicate l.i (pos 0))
