use Rattle.std.proofs.Common.{◌≡◌, ◌∙◌, sym, subst, ap, ◌≤◌, ◌^◌, ◌+◌, suc, length, arith, unsigned_abs}
use Rattle.lent_parts.proofs.Triangles.{length-IsTri, length-tri_row}
use Rattle.lent_parts.specs.Triangle.{tri_row}
use Rattle.psd_cert.proofs.Entries.{scale_fits, fits_at, left_over_read}
use Rattle.psd_cert.proofs.step.left_over_at.Goals as goal
use Rattle.whole_algebra.proofs.Written.{read_back}

pub row-requires : goal.row-requires
row-requires c =
    let e = length-IsTri (suc (length c.args.remainder.now)) c.args.current.now c.requires.step.shape in
    let h = c.requires.within in
    omega arith

pub bounds-row-k : goal.bounds-row-k
bounds-row-k c =
    let h = c.requires.within in
    let e = length-tri_row (suc (length c.args.remainder.now)) c.args.current.now (c.args.i + 1) c.requires.step.shape (omega arith) in
    let f : length c.row.result.now ≡ length (tri_row c.args.current.now (c.args.i + 1)) = ap length c.row.ensures.value in
    omega arith

pub bounds-row-k-2 : goal.bounds-row-k-2
bounds-row-k-2 c =
    let h = c.requires.within in
    let e = length-tri_row (length c.args.remainder.now) c.args.remainder.now c.args.i c.requires.step.remainder_shape (omega arith) in
    let f : length c.row-2.result.now ≡ length (tri_row c.args.remainder.now c.args.i) = ap length c.row-2.ensures.value in
    omega arith

pub left_of_entry-requires-clause-s : goal.left_of_entry-requires-clause-s
left_of_entry-requires-clause-s c =
    let h = scale_fits (tri_row c.args.current.now 0) c.args.scale c.requires.scale (fits_at c.args.current.now 0 c.requires.step.fits) in
    subst (λ z. unsigned_abs z ≤ 2 ^ 61) (sym (read_back c.args.scale (2 ^ 126) (omega arith) (omega arith))) h

pub returns-clause-value : goal.returns-clause-value
returns-clause-value c =
    let h = scale_fits (tri_row c.args.current.now 0) c.args.scale c.requires.scale (fits_at c.args.current.now 0 c.requires.step.fits) in
    let size = c.left_of_entry.ensures.size in
    read_back c.left_of_entry.result (2 ^ 126) (omega arith) (omega arith)
    ∙ left_over_read c.args.scale (length c.args.remainder.now) c.args.current.now c.args.remainder.now c.args.i c.args.k
    c.row-first.result.now c.row.result.now c.row-2.result.now c.left_of_entry.result
    c.requires.step.shape c.requires.step.fits c.requires.step.remainder_fits h
    c.row-first.ensures.value c.row.ensures.value c.row-2.ensures.value c.left_of_entry.ensures.value
