use Rattle.std.proofs.Common.{◌≡◌, pos, ◌≤◌, ◌^◌, ◌-ℤ◌, ◌≤ℤ◌, unsigned_abs, take}
use Rattle.whole_algebra.specs.Sums.{int_sum}
use Rattle.whole_algebra.specs.Chains.{beside}
use Rattle.whole_algebra.specs.Grid.{row_at}
use Rattle.psd_cert.specs.LeftOver.{left_sizes}
use Rattle.psd_cert.proofs.step.row_has_room.Given as goal

abbrev pub invariant-loop-k : goal.invariant-loop-k
invariant-loop-k l = (l.rest ≡ l.room -ℤ int_sum (take l.k (beside (row_at (left_sizes l.scale l.current l.remainder) l.i)))) × (pos 0 ≤ℤ l.rest) × (unsigned_abs l.rest ≤ 2 ^ 125)
