use Rattle.std.proofs.Common.{ℕ, ◌<◌}
use Rattle.psd_cert.specs.LeftOver.{left_over, IsRowDominant}
use Rattle.psd_cert.proofs.step.step_holds.Given as goal

abbrev pub invariant-loop-i : goal.invariant-loop-i
invariant-loop-i l = (j : ℕ) → j < l.i → IsRowDominant (left_over l.scale l.current l.remainder) j
