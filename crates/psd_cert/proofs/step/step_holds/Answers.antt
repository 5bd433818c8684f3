use Rattle.std.proofs.Common.{suc, length, arith, sym, ◌∙◌, subst, FitsSigned}
use Rattle.std.specs.Int.{w128}
use Rattle.std.proofs.lemmas.Int.{to_z-of_z}
use Rattle.whole_algebra.proofs.Refutation.{false_is_not_true}
use Rattle.psd_cert.proofs.Decided.{decided_true, decided_false}
use Rattle.chain_step.proofs.Products.{in_range}
use Rattle.psd_cert.proofs.Entries.{scale_fits, fits_at}
use Rattle.psd_cert.proofs.LeftOverLaws.{step_from_rows, rows_from_step, step_has_scale}
use Rattle.lent_parts.specs.Triangle.{IsTri, tri_row}
use Rattle.psd_cert.proofs.step.step_holds.Goals as goal

pub is_row_dominant-requires-clause-step : goal.is_row_dominant-requires-clause-step
is_row_dominant-requires-clause-step c =
    record {
      shape = subst (λ n. IsTri n c.args.current.now) c.requires.size c.row.ensures.shape;
      remainder_shape = c.size-i-end.ensures.shape;
      few = omega (arith, c.size-i-end.ensures.rows, c.size-i-end.ensures.most);
      fits = c.requires.fits;
      remainder_fits = c.requires.remainder_fits;
    }

pub returns-in_default : goal.returns-in_default
returns-in_default c =
    let shape : IsTri (suc (length c.args.remainder.now)) c.args.current.now = subst (λ n. IsTri n c.args.current.now) c.requires.size c.row.ensures.shape in
    let none = rw c.row.ensures.value at c.in_default.ensures in
    decided_false (λ holds.
    let scale = step_has_scale c.args.current.now c.args.remainder.now (length c.args.remainder.now) shape holds in
    none scale.0 scale.1)

pub returns-then-not-is_row_dominant : goal.returns-then-not-is_row_dominant
returns-then-not-is_row_dominant c =
    let shape : IsTri (suc (length c.args.remainder.now)) c.args.current.now = subst (λ n. IsTri n c.args.current.now) c.requires.size c.row.ensures.shape in
    let scale = rw c.row.ensures.value at c.in-Some.ensures in
    let size = scale_fits (tri_row c.args.current.now 0) c.in-Some.scale scale (fits_at c.args.current.now 0 c.requires.fits) in
    let f : FitsSigned w128 c.in-Some.scale = in_range c.in-Some.scale (omega arith) in
    let tells = simp (to_z-of_z, f) at c.is_row_dominant.ensures in
    decided_false (λ holds. false_is_not_true (sym c.if-not-is_row_dominant.true ∙ tells.1 (rows_from_step c.in-Some.scale (length c.args.remainder.now) c.args.current.now c.args.remainder.now shape c.size-i-end.ensures.shape scale holds c.loop-i.i)))

pub returns : goal.returns
returns c =
    let shape : IsTri (suc (length c.args.remainder.now)) c.args.current.now = subst (λ n. IsTri n c.args.current.now) c.requires.size c.row.ensures.shape in
    let scale = rw c.row.ensures.value at c.in-Some.ensures in
    let size = scale_fits (tri_row c.args.current.now 0) c.in-Some.scale scale (fits_at c.args.current.now 0 c.requires.fits) in
    let f : FitsSigned w128 c.in-Some.scale = in_range c.in-Some.scale (omega arith) in
    let rows = simp (to_z-of_z, f) at c.loop-i.invariant in
    let done = rw c.size-i-end.ensures.rows at c.loop-i-test.false in
    decided_true (step_from_rows c.in-Some.scale (length c.args.remainder.now) c.args.current.now c.args.remainder.now shape c.size-i-end.ensures.shape scale (λ j lt. rows j (omega arith)))
