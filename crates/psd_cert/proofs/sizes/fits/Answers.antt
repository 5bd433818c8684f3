use Rattle.std.proofs.Common.{[], arith}
use Rattle.std.proofs.lemmas.List.Elements.{All-from_get_or}
use Rattle.psd_cert.specs.Sizes.{RowFits}
use Rattle.psd_cert.proofs.Decided.{decided_true}
use Rattle.psd_cert.proofs.sizes.fits.Goals as goal

pub returns : goal.returns
returns c =
    let done = c.loop-k-test.false in
    let e = c.size-k-end.ensures.rows in
    decided_true (All-from_get_or RowFits c.args.first.now [] (λ j lt. c.loop-k.invariant j (omega arith)))
