use Rattle.std.proofs.Common.{◌≡◌, ◌∷◌, [], length, length-append, sym, ◌∙◌, ap, subst, arith}
use Rattle.whole_algebra.specs.Certificates.{CertificateHolds}
use Rattle.whole_algebra.proofs.Refutation.{false_is_not_true}
use Rattle.psd_cert.specs.Lower.{StopsHere, Leaves, last_matrix}
use Rattle.psd_cert.proofs.ChainSoFar.{begun_shape, begun_more, begun_stops, begun_unfit, begun_whole}
use Rattle.psd_cert.proofs.square_cert.SquareCert.make.Goals as goal

pub lower_step-requires-clause-some : goal.lower_step-requires-clause-some
lower_step-requires-clause-some c =
    let e = (begun_shape (length c.args.first.now) c.args.first.now c.loop-step.remainders.items c.last_matrix.result.now c.loop-step.invariant.0
    (c.last_matrix.ensures ∙ ap (last_matrix c.args.first.now) c.deref.ensures.value)).1 in
    omega (arith, e, c.loop-step.invariant.1, c.loop-step-test.true, c.size-step-end.ensures.rows)

pub lower_step-requires-clause-few : goal.lower_step-requires-clause-few
lower_step-requires-clause-few c =
    let e = (begun_shape (length c.args.first.now) c.args.first.now c.loop-step.remainders.items c.last_matrix.result.now c.loop-step.invariant.0
    (c.last_matrix.ensures ∙ ap (last_matrix c.args.first.now) c.deref.ensures.value)).1 in
    omega (arith, e, c.size-step-end.ensures.rows, c.size-step-end.ensures.most)

pub returns-then-not-fits-clause-remainders : goal.returns-then-not-fits-clause-remainders
returns-then-not-fits-clause-remainders c =
    let e = c.last_matrix.ensures ∙ ap (last_matrix c.args.first.now) c.deref.ensures.value in
    let left = rw c.in-Some.is at c.in_ok-left.ensures in
    begun_unfit (length c.args.first.now) c.args.first.now c.loop-step.remainders.items c.in-Some.left c.loop-step.invariant.0
    (omega (arith, c.loop-step.invariant.1, c.loop-step-test.true, c.size-step-end.ensures.rows))
    (subst (λ m. Leaves m c.in-Some.left) e left.0) left.1
    (λ fit. false_is_not_true (sym c.if-not-fits.true ∙ c.fits.ensures.1 fit))

pub returns-in_default-clause-remainders : goal.returns-in_default-clause-remainders
returns-in_default-clause-remainders c =
    let e = c.last_matrix.ensures ∙ ap (last_matrix c.args.first.now) c.deref.ensures.value in
    let none = rw c.in_default.is at c.in_ok-left.ensures in
    begun_stops (length c.args.first.now) c.args.first.now c.loop-step.remainders.items c.loop-step.invariant.0
    (omega (arith, c.loop-step.invariant.1, c.loop-step-test.true, c.size-step-end.ensures.rows))
    (subst StopsHere e none)

pub loop-step-preserved : goal.loop-step-preserved
loop-step-preserved c =
    let e = c.last_matrix.ensures ∙ ap (last_matrix c.args.first.now) c.deref.ensures.value in
    let left = rw c.in-Some.is at c.in_ok-left.ensures in
    let b = begun_more (length c.args.first.now) c.args.first.now c.loop-step.remainders.items c.in-Some.left c.loop-step.invariant.0
    (omega (arith, c.loop-step.invariant.1, c.loop-step-test.true, c.size-step-end.ensures.rows))
    (subst (λ m. Leaves m c.in-Some.left) e left.0) (c.fits.ensures.0 c.if-not-fits.false) in
    let l = length-append c.loop-step.remainders.items (c.in-Some.left ∷ []) in
    rw c.in_ok-push.ensures.items (b, omega (arith, l, c.loop-step.invariant.1))

pub invariant_of-result : goal.invariant_of-result
invariant_of-result c =
    (begun_whole c.args.first.now c.loop-step.remainders.items c.size-step-end.ensures.shape c.loop-step.invariant.0
    (omega (arith, c.loop-step.invariant.1, c.loop-step-test.false, c.loop-step.auto._step-end, c.size-step-end.ensures.rows))).kept

pub returns-clause-holds : goal.returns-clause-holds
returns-clause-holds c = λ x e.
    let made = begun_whole c.args.first.now c.loop-step.remainders.items c.size-step-end.ensures.shape c.loop-step.invariant.0
    (omega (arith, c.loop-step.invariant.1, c.loop-step-test.false, c.loop-step.auto._step-end, c.size-step-end.ensures.rows)) in
    let same : c.loop-step.remainders.items ≡ x = cc in
    subst (λ rs. (length rs ≡ length c.args.first.now) × CertificateHolds rs c.args.first.now) same (made.size, made.holds)

pub returns-clause-remainders : goal.returns-clause-remainders
returns-clause-remainders c =
    let made = begun_whole c.args.first.now c.loop-step.remainders.items c.size-step-end.ensures.shape c.loop-step.invariant.0
    (omega (arith, c.loop-step.invariant.1, c.loop-step-test.false, c.loop-step.auto._step-end, c.size-step-end.ensures.rows)) in
    (made.no_stop, made.remainders)
