use Rattle.std.proofs.Common.{length}
use Rattle.psd_cert.proofs.square_cert.+holds_from.Given as goal

abbrev pub decreases-holds_from : goal.decreases-holds_from
decreases-holds_from l = length l.remainders.now
