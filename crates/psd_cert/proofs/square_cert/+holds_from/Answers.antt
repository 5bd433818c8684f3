use Rattle.std.proofs.Common.{◌-◌, length, take, drop, arith}
use Rattle.psd_cert.proofs.CertificateLaws.{slice_parts, first_of, rest_is_shorter}
use Rattle.psd_cert.proofs.square_cert.+holds_from.Goals as goal

pub step_holds-requires-clause-size : goal.step_holds-requires-clause-size
step_holds-requires-clause-size t c =
    let rs = c.args.remainders.now in
    (first_of c.args.current.now c.remainder-item.result rs (take (length rs - 1) (drop 1 rs)) (slice_parts rs c.remainder-item.result c.in-len1-up.len_at_least c.remainder-item.is)
    c.requires.size c.requires.sizes c.requires.remainders_fit).size

pub holds_from-requires : goal.holds_from-requires
holds_from-requires t c =
    let rs = c.args.remainders.now in
    let f = first_of c.args.current.now c.remainder-item.result rs (take (length rs - 1) (drop 1 rs)) (slice_parts rs c.remainder-item.result c.in-len1-up.len_at_least c.remainder-item.is)
    c.requires.size c.requires.sizes c.requires.remainders_fit in
    let shorter = rest_is_shorter rs c.in-len1-up.len_at_least in
    let now = c.decreases in
    (omega arith, (f.rest_size, (f.sizes, (f.fits, f.rest_fit))))
