use Rattle.std.proofs.Common.{◌≡◌, length}
use Rattle.psd_cert.proofs.ChainSoFar.{IsBegun}
use Rattle.psd_cert.proofs.square_cert.SquareCert.make.Given as goal

abbrev pub invariant-loop-step : goal.invariant-loop-step
invariant-loop-step l = IsBegun (length l.first) l.first l.remainders.items × (length l.remainders.items ≡ l._step)
