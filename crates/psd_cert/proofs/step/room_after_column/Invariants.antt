use Rattle.std.proofs.Common.{◌≡◌, pos, ◌≤◌, ◌^◌, ◌-ℤ◌, ◌≤ℤ◌, unsigned_abs}
use Rattle.whole_algebra.specs.Grid.{above}
use Rattle.psd_cert.specs.LeftOver.{left_sizes}
use Rattle.psd_cert.proofs.step.room_after_column.Given as goal

abbrev pub invariant-loop-j : goal.invariant-loop-j
invariant-loop-j l = (l.rest ≡ l.room -ℤ above (left_sizes l.scale l.current l.remainder) l.i l.j) × (pos 0 ≤ℤ l.rest) × (unsigned_abs l.rest ≤ 2 ^ 125)
