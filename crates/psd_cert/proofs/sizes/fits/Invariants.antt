use Rattle.std.proofs.Common.{ℕ, ◌<◌, get_or, []}
use Rattle.psd_cert.specs.Sizes.{RowFits}
use Rattle.psd_cert.proofs.sizes.fits.Given as goal

abbrev pub invariant-loop-k : goal.invariant-loop-k
invariant-loop-k l = (j : ℕ) → j < l.k → RowFits (get_or l.first j [])
