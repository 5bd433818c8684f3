use Rattle.std.proofs.Common.{◌≡◌, length, ◌∙◌, sym, ap, subst, false, arith}
use Rattle.whole_algebra.specs.Chains.{step_of, is_stop}
use Rattle.lent_parts.specs.Triangle.{tri_row}
use Rattle.chain_step.specs.Step.{IsPivotRow}
use Rattle.psd_cert.proofs.LowerSteps.{leaves_next, left_diagonal, small_head, stops_first}
use Rattle.psd_cert.proofs.lower.lower_step.Goals as goal

pub stop_of-requires-clause-some : goal.stop_of-requires-clause-some
stop_of-requires-clause-some c = let places = c.row.ensures.places in let some = c.requires.some in omega arith

pub stop_of-requires-clause-head : goal.stop_of-requires-clause-head
stop_of-requires-clause-head c = small_head c.args.current.now c.row.result.now c.requires.fits c.row.ensures.value

pub left_below-requires-clause-pivot : goal.left_below-requires-clause-pivot
left_below-requires-clause-pivot c =
    let places = c.row.ensures.places in
    subst IsPivotRow c.row.ensures.value
    (record { goes_on = c.in-None.ensures; few = (let few = c.requires.few in omega arith); head = small_head c.args.current.now c.row.result.now c.requires.fits c.row.ensures.value })

pub returns-in_ok-left_below-in-None : goal.returns-in_ok-left_below-in-None
returns-in_ok-left_below-in-None c =
    let left = c.in_ok-left_below-in-None.ensures in
    let go : is_stop (step_of (tri_row c.args.current.now 0)) ≡ false = subst (λ row. is_stop (step_of row) ≡ false) c.row.ensures.value c.in-None.ensures in
    (leaves_next c.args.current.now _ c.requires.some go left, left_diagonal c.args.current.now _ c.requires.fits left)

pub returns-in-Some : goal.returns-in-Some
returns-in-Some c =
    stops_first c.args.current.now c.in-Some._value c.requires.some (ap step_of (sym c.row.ensures.value) ∙ c.in-Some.ensures)
