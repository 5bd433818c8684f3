use Rattle.std.proofs.Common.{rules, ◌≡◌, ◌-◌, ◌≤◌, length, get_or, pos, refl, sym, ◌∙◌, ap, arith, FitsSigned}
use Rattle.std.specs.Int.{w128}
use Rattle.std.proofs.lemmas.Int.{to_z-of_z}
use Rattle.whole_algebra.specs.Chains.{lower_chain, upper_chain}
use Rattle.chain_step.specs.declared.side.Side.TheVariants.{Lower, Upper}
use Rattle.pivot_chain.specs.Judging.{lower_of, upper_of}
use Rattle.pivot_chain.specs.Verdict.{verdict_from}
use Rattle.pivot_chain.proofs.ChainSteps.{pivot_read, outcome_open}
use Rattle.pivot_chain.proofs.Judged.{step_range, tall_lower_of, tall_upper_of}
use Rattle.pivot_chain.proofs.judging.judge.Goals as goal

pub run_upper-requires-clause-spare_room : goal.run_upper-requires-clause-spare_room
run_upper-requires-clause-spare_room c = c.in-Some.ensures.lower_size ∙ c.requires.lower_room

pub run_upper-requires-clause-upper_room : goal.run_upper-requires-clause-upper_room
run_upper-requires-clause-upper_room c = c.in-Some.ensures.upper_size ∙ c.requires.upper_room

pub run_upper-requires-clause-rows_room : goal.run_upper-requires-clause-rows_room
run_upper-requires-clause-rows_room c = c.in-Some.ensures.rows_size ∙ c.requires.rows_room

pub run_upper-requires-clause-gaps_room : goal.run_upper-requires-clause-gaps_room
run_upper-requires-clause-gaps_room c = c.in-Some.ensures.gaps_size ∙ c.requires.gaps_room

pub row-requires : goal.row-requires
row-requires c =
    let range = step_range Lower (lower_of c.args.grids.now) c.in-Some.low c.in-Some.ensures.stop in
    let tall = tall_lower_of c.args.grids.now in
    let size = c.in-None.ensures.rows_size in
    let before = c.in-Some.ensures.rows_size in
    let room = c.requires.rows_room in
    omega (arith, range.0, range.1)

pub bounds-row-0 : goal.bounds-row-0
bounds-row-0 c =
    let range = step_range Lower (lower_of c.args.grids.now) c.in-Some.low c.in-Some.ensures.stop in
    let tall = tall_lower_of c.args.grids.now in
    let size = c.in-None.ensures.rows_size in
    let before = c.in-Some.ensures.rows_size in
    let room = c.requires.rows_room in
    let places = c.row.ensures.places in
    omega (arith, range.0, range.1)

pub returns-in-None-clause-exact : goal.returns-in-None-clause-exact
returns-in-None-clause-exact c =
    let stop = c.in-Some.ensures.stop in
    let range = step_range Lower (lower_of c.args.grids.now) c.in-Some.low stop in
    let tall = tall_lower_of c.args.grids.now in
    let tall_too = tall_upper_of c.args.grids.now in
    let before = c.in-Some.ensures.rows_size in
    let room = c.requires.rows_room in
    let low : 1 ≤ c.in-Some.low.step = range.0 in
    let high : c.in-Some.low.step ≤ length (upper_of c.args.grids.now) = omega (arith, range.1) in
    let f : FitsSigned w128 c.in-Some.low.value = search rules in
    let g : FitsSigned w128 (get_or c.row.result.now 0 (pos 0)) = search rules in
    let pivot = pivot_read Upper (length (upper_of c.args.grids.now)) c.in-Some.low.step (upper_of c.args.grids.now) c.row.result.now low high c.in-None.ensures.stop
    (c.row.ensures.value ∙ c.in-None.ensures.rows refl (c.in-Some.low.step - 1) (omega arith)) in
    simp (to_z-of_z, f, g)
    (sym (ap verdict_from
    (outcome_open (lower_chain (lower_of c.args.grids.now)) (upper_chain (upper_of c.args.grids.now)) c.in-Some.low.step c.in-Some.low.value (get_or c.row.result.now 0 (pos 0)) stop.stops_here c.in-None.ensures.stop stop.place stop.number pivot)))
