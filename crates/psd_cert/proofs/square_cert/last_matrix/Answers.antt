use Rattle.psd_cert.proofs.ChainSoFar.{last_is}
use Rattle.psd_cert.proofs.square_cert.last_matrix.Goals as goal

pub returns-in-len1-up : goal.returns-in-len1-up
returns-in-len1-up c = last_is c.args.first.now c.args.remainders.now c.last-item.result c.in-len1-up.len_at_least c.last-item.is
