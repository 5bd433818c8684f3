use Rattle.std.proofs.Common.{◌≡◌, ◌∙◌, ◌<◌, Bool, true, false, ◌&&◌, None, length, get_or, ap, arith, sym, refl}
use Rattle.std.proofs.lemmas.Option.{get_or_from_slice_get}
use Rattle.geo_model.specs.Below.{any_below}
use Rattle.geo_model.specs.Prices.{chooses, chooses_at, is_station}
use Rattle.geo_model.proofs.BelowLemmas.{any_below-none, any_below-some, any_below-still_none}
use Rattle.geo_model.proofs.price.uses_station.Goals as goal
use Rattle.geo_model.proofs.price.uses_station.Goals.{else-has-via-then-has+else-has_station, else-has-via-else-has}

both : (a b : Bool) → a ≡ true → b ≡ true → (a && b) ≡ true
both a b e f = rw e f

first_false : (a b : Bool) → a ≡ false → (a && b) ≡ false
first_false a b e = rw e refl

second_false : (a b : Bool) → b ≡ false → (a && b) ≡ false
second_false true b e = e
second_false false b e = refl

pub loop-i-init : goal.loop-i-init
loop-i-init c = any_below-none (chooses_at c.args.network.now.stations c.args.plan.now c.args.station)

pub returns-then-has_station : goal.returns-then-has_station
returns-then-has_station c =
    let inside : c.loop-i.i < length c.args.plan.now = omega (arith, ap length c.candidates.ensures.value) in
    sym (any_below-some (chooses_at c.args.network.now.stations c.args.plan.now c.args.station) (length c.args.plan.now) c.loop-i.i inside
    (both (chooses c.args.plan.now c.loop-i.i) (is_station c.args.station (get_or c.args.network.now.stations c.loop-i.i None))
    (get_or_from_slice_get c.args.plan.now c.loop-i.i c.has.result false c.has.ensures ∙ c.if-has.true)
    (sym c.has_station.ensures ∙ c.if-has_station.true)))

pub loop-i-preserved : goal.loop-i-preserved
loop-i-preserved c =
    let flag : chooses c.args.plan.now c.loop-i.i ≡ c.has.result = get_or_from_slice_get c.args.plan.now c.loop-i.i c.has.result false c.has.ensures in
    let at = is_station c.args.station (get_or c.args.network.now.stations c.loop-i.i None) in
    any_below-still_none (chooses_at c.args.network.now.stations c.args.plan.now c.args.station) c.loop-i.i c.loop-i.invariant
    (elim c.else-has.branch [
      | else-has-via-then-has+else-has_station w ↦ second_false (chooses c.args.plan.now c.loop-i.i) at (sym w.has_station.ensures ∙ w.if-has_station.false)
      | else-has-via-else-has w ↦ first_false (chooses c.args.plan.now c.loop-i.i) at (flag ∙ w.if-has.false)
    ])

pub returns : goal.returns
returns c =
    let whole : c.loop-i.i ≡ length c.args.plan.now = omega (arith, ap length c.candidates.ensures.value) in
    sym (ap (any_below (chooses_at c.args.network.now.stations c.args.plan.now c.args.station)) (sym whole) ∙ c.loop-i.invariant)
