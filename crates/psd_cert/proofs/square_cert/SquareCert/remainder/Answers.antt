use Rattle.psd_cert.proofs.CertificateLaws.{remainder_of_step}
use Rattle.psd_cert.proofs.square_cert.SquareCert.remainder.Goals as goal

pub returns-clause-shape : goal.returns-clause-shape
returns-clause-shape c =
    remainder_of_step c.self.inside.remainders.items c.args.self.now c.args.t c.index.result.now c.self.invariant.0 c.self.view_is c.requires.low c.requires.high c.index.ensures
