use Rattle.std.proofs.Common.{◌≡◌, ◌+◌, ◌-◌, ◌<◌, length, length-set, sym, ◌∙◌, ap, subst, arith}
use Rattle.whole_algebra.specs.Matrices.{lower_over}
use Rattle.whole_algebra.specs.Chains.{matrix_after}
use Rattle.whole_algebra.specs.Grid.{row_at}
use Rattle.lent_parts.specs.Triangle.{IsTri, tri_row}
use Rattle.lent_parts.proofs.Triangles.{length-IsTri}
use Rattle.chain_step.specs.Step.{IsPivotRow}
use Rattle.chain_step.proofs.WrittenRows.{row_put, row_shape, rows_all}
use Rattle.psd_cert.specs.Sizes.{RowFits}
use Rattle.psd_cert.proofs.Entries.{fits_at}
use Rattle.psd_cert.proofs.LowerSteps.{left_triangle}
use Rattle.psd_cert.proofs.lower.left_below.Goals as goal

pub loop-i-init : goal.loop-i-init
loop-i-init c =
    let size = c.size-size.ensures.rows in
    record {
      shape = subst (λ n. IsTri (n - 1) c.in_ok-left.left) size c.in_ok-left.ensures.shape;
      counts = length-IsTri (c.size-size.result - 1) c.in_ok-counts.counts c.in_ok-counts.ensures.shape ∙ ap (λ n. n - 1) size;
      rows = λ j lt. absurd (omega arith);
    }

pub row_mut-requires : goal.row_mut-requires
row_mut-requires c =
    let tall = length-IsTri (length c.args.current.now - 1) c.loop-i.left c.loop-i.invariant.shape in
    let lt = c.loop-i-test.true in
    let size = c.size-size.ensures.rows in
    omega arith

pub write_left-requires-clause-pivot : goal.write_left-requires-clause-pivot
write_left-requires-clause-pivot c = subst IsPivotRow (sym c.row-in-loop-i.ensures.value) c.requires.pivot

pub write_left-requires-clause-some : goal.write_left-requires-clause-some
write_left-requires-clause-some c =
    let places = c.row.ensures.places in
    let lt = c.loop-i-test.true in
    let size = c.size-size.ensures.rows in
    omega arith

pub write_left-requires-clause-shorter : goal.write_left-requires-clause-shorter
write_left-requires-clause-shorter c =
    let places = c.row.ensures.places in
    let first = c.row-in-loop-i.ensures.places in
    let lt = c.loop-i-test.true in
    let size = c.size-size.ensures.rows in
    omega arith

pub write_left-requires-clause-fits : goal.write_left-requires-clause-fits
write_left-requires-clause-fits c = subst RowFits (sym c.row.ensures.value) (fits_at c.args.current.now (c.loop-i.i + 1) c.requires.fits)

pub write_left-requires-clause-counted : goal.write_left-requires-clause-counted
write_left-requires-clause-counted c =
    let places = c.row.ensures.places in
    let counts = c.row_mut-in-loop-i.ensures.places in
    let kept = c.loop-i.invariant.counts in
    let lt = c.loop-i-test.true in
    let size = c.size-size.ensures.rows in
    omega arith

pub row_mut-requires-in-loop-i : goal.row_mut-requires-in-loop-i
row_mut-requires-in-loop-i c =
    let kept = c.loop-i.invariant.counts in
    let lt = c.loop-i-test.true in
    let size = c.size-size.ensures.rows in
    omega arith

pub write_left-requires-clause-room : goal.write_left-requires-clause-room
write_left-requires-clause-room c =
    let tall = length-IsTri (length c.args.current.now - 1) c.loop-i.left c.loop-i.invariant.shape in
    let places = c.row.ensures.places in
    let target = c.row_mut.ensures.places in
    let lt = c.loop-i-test.true in
    let size = c.size-size.ensures.rows in
    omega arith

pub loop-i-preserved : goal.loop-i-preserved
loop-i-preserved c =
    let current = c.args.current.now in
    let n = length current - 1 in
    let tall = length-IsTri n c.loop-i.left c.loop-i.invariant.shape in
    let places = c.row.ensures.places in
    let first = c.row-in-loop-i.ensures.places in
    let target = c.row_mut.ensures.places in
    let kept = c.write_left.auto.target in
    let lt = c.loop-i-test.true in
    let size = c.size-size.ensures.rows in
    let below : length c.row-in-loop-i.result.now - length c.row.result.now ≡ c.loop-i.i + 1 = omega arith in
    let there : length c.row-in-loop-i.result.now - length c.row.result.now - 1 ≡ c.loop-i.i = omega arith in
    let whole : length c.row-in-loop-i.result.now ≡ length current = omega arith in
    let written = c.write_left.ensures current (subst (λ m. IsTri m current) (sym whole) c.size-size.ensures.shape) (sym c.row-in-loop-i.ensures.value)
    (ap (row_at current) below ∙ sym c.row.ensures.value) ∙ ap (row_at (matrix_after lower_over 1 current)) there in
    let inside : c.loop-i.i < n = omega arith in
    let long : length c.write_left.new.target ≡ n - c.loop-i.i = omega arith in
    record {
      shape = row_shape n c.loop-i.left c.write_left.new.target c.loop-i.i c.loop-i.invariant.shape inside long;
      rows = row_put n c.loop-i.left (row_at (matrix_after lower_over 1 current)) c.write_left.new.target c.loop-i.i c.loop-i.invariant.shape inside long c.loop-i.invariant.rows written;
      counts = length-set c.loop-i.counts c.loop-i.i _ ∙ c.loop-i.invariant.counts;
    }

pub returns : goal.returns
returns c =
    let current = c.args.current.now in
    let done = c.loop-i-test.false in
    let size = c.size-size.ensures.rows in
    rows_all (length current - 1) c.loop-i.left (matrix_after lower_over 1 current) c.loop-i.invariant.shape
    (left_triangle current c.size-size.ensures.shape c.requires.some c.requires.pivot.goes_on) (λ j lt. c.loop-i.invariant.rows j (omega arith))
