use Rattle.std.proofs.Common.{◌≡◌, ◌∙◌, ℕ, ◌*◌, ℤ, pos, ◌-ℤ◌, List, length, get_or, arith, ap, ap₂}
use Rattle.std.specs.Prelude.{slice_get}
use Rattle.std.proofs.lemmas.List.{with_items_is}
use Rattle.whole_algebra.specs.Matrices.{at}
use Rattle.geo_model.specs.Cover.{CoverOf}
use Rattle.bound_log.specs.CutText.{CutTextOf, displaced_by}
use Rattle.bound_log.specs.DualText.{cover_at}
use Rattle.log_check.proofs.WeighLemmas.{cover_written}
use Rattle.log_check.proofs.dual.weigh_moves.Goals as goal

-- the covering inequality that was written is that of the cut
covers : (c : goal.After-from-2) (cut : CutTextOf) → cut.limit ≡ c.args.limit → ((i : ℕ) → displaced_by cut.pairs i ≡ at c.args.room.now.moves i) → let written : CoverOf = record { coefficients = c.cut_into-bound.new.coefficients; bound = c.cut_into-bound.result } in
    written ≡ cover_at c.args.network.now cut (slice_get c.args.network.now.limits cut.limit)
covers c cut same moved =
    cover_written c.args.network.now cut c.args.limit c.args.room.now.moves _ (omega (arith, c.requires.limit, same)) (omega (arith, same)) moved c.cut_into-bound.ensures.value

pub returns-clause-paid : goal.returns-clause-paid
returns-clause-paid c = λ cut same moved. ap₂ (λ m n. m * n) c.from.ensures (c.from-2.ensures ∙ ap (λ (v : CoverOf). v.bound) (covers c cut same moved))

pub returns-clause-taken : goal.returns-clause-taken
returns-clause-taken c = λ cut same moved.
    let room = c.args.room.now in
    let numbers = c.cut_into-bound.new.coefficients in
    let left = c.take_off.new.reduced in
    let wide : length numbers ≡ room.coefficients.len = omega (arith, c.cut_into-bound.auto.coefficients, ap length c.as_mut_slice-coefficients.ensures.value, room.coefficients.ok.0) in
    let long : length left ≡ room.reduced.len = omega (arith, c.take_off.auto.reduced, ap length c.as_mut_slice.ensures.value, room.reduced.ok.0) in
    let read : c.as_slice.result.now ≡ numbers = c.as_slice.ensures.value ∙ with_items_is room.coefficients numbers wide in
    let are : numbers ≡ (cover_at c.args.network.now cut (slice_get c.args.network.now.limits cut.limit)).coefficients = ap (λ (v : CoverOf). v.coefficients) (covers c cut same moved) in
    λ i.
    ap (λ (l : List ℤ). at l i) (with_items_is room.reduced left long)
    ∙ c.take_off.ensures.taken i
    ∙ ap₂ (λ (l : List ℤ) (n : List ℕ). at l i -ℤ pos (c.args.multiplier * get_or n i 0)) c.as_mut_slice.ensures.value (read ∙ are)
