use Rattle.whole_algebra.proofs.Dominance.{certificate_nonneg}
use Rattle.psd_cert.proofs.square_cert.holds.Goals as goal

pub returns-clause-nowhere_negative : goal.returns-clause-nowhere_negative
returns-clause-nowhere_negative c = λ yes x. certificate_nonneg c.remainders.result.now c.args.first.now x (c.holds_from.ensures.0 yes)
