use Rattle.std.proofs.Common.{◌≡◌, ◌∙◌, ℕ, ℤ, List, length, arith, ap, sym, subst}
use Rattle.std.proofs.lemmas.List.{with_items_is}
use Rattle.std.proofs.lemmas.List.Elements.{All-head}
use Rattle.bound_log.specs.CutText.{CutTextOf}
use Rattle.log_check.specs.Weighing.{IsShareOf, Weighs}
use Rattle.log_check.proofs.WeighLemmas.{weighs_start, weighs_next, weighs_end}
use Rattle.log_check.proofs.dual.weigh.Goals as goal

pub shares-init : goal.shares-init
shares-init c =
    let network = c.args.network.now in
    let shares = c.args.shares.now in
    let room = c.args.room.now in
    let prices = c.write_prices.new.reduced in
    let long : length prices ≡ room.reduced.len = omega (arith, c.write_prices.auto.reduced, ap length c.as_mut_slice.ensures.value, room.reduced.ok.0) in
    let put = with_items_is room.reduced prices long in
    let start = weighs_start network c.args.divisor shares prices c.requires.each c.write_prices.ensures.prices c.write_prices.ensures.small in
    record {
      weighs = subst (λ (l : List ℤ). Weighs network c.args.divisor shares c.shares-left.result l 0) (sym put)
          (subst (λ (left : List (ℕ × CutTextOf)). Weighs network c.args.divisor shares left prices 0) (sym c.shares-left.ensures) start);
      kept = record {
        chains = c.requires.room.chains;
        moves = c.requires.room.moves;
        coefficients = c.requires.room.coefficients;
        reduced = ap length put ∙ long ∙ room.reduced.ok.0 ∙ c.requires.room.reduced;
      };
    }

pub weigh_share-paid-requires-clause-share : goal.weigh_share-paid-requires-clause-share
weigh_share-paid-requires-clause-share c =
    let network = c.args.network.now in
    let share : ℕ × CutTextOf = (c.in-Some.multiplier, c.in-Some.cut) in
    let at = subst (λ (left : List (ℕ × CutTextOf)). Weighs network c.args.divisor c.args.shares.now left c.shares.room.reduced.items c.shares.paid) c.in-Some.ensures.steps c.shares.invariant.weighs in
    All-head (IsShareOf network) share c.next.new.self at.each

pub shares-preserved : goal.shares-preserved
shares-preserved c =
    let network = c.args.network.now in
    let share : ℕ × CutTextOf = (c.in-Some.multiplier, c.in-Some.cut) in
    let at = subst (λ (left : List (ℕ × CutTextOf)). Weighs network c.args.divisor c.args.shares.now left c.shares.room.reduced.items c.shares.paid) c.in-Some.ensures.steps c.shares.invariant.weighs in
    let e = c.weigh_share-paid.ensures in
    record {
      weighs = weighs_next network c.args.divisor c.args.shares.now c.next.new.self share c.shares.room.reduced.items c.weigh_share-paid.new.room.reduced.items c.shares.paid c.weigh_share-paid.result at
          e.paid e.paid_size e.taken e.near;
      kept = e.kept;
    }

pub returns-clause-paid : goal.returns-clause-paid
returns-clause-paid c =
    (weighs_end c.args.network.now c.args.divisor c.args.shares.now c.shares.left c.shares.room.reduced.items c.shares.paid c.requires.few c.in_default.ensures.steps.0 c.shares.invariant.weighs).sum

pub returns-clause-paid_size : goal.returns-clause-paid_size
returns-clause-paid_size c =
    (weighs_end c.args.network.now c.args.divisor c.args.shares.now c.shares.left c.shares.room.reduced.items c.shares.paid c.requires.few c.in_default.ensures.steps.0 c.shares.invariant.weighs).size

pub returns-clause-taken : goal.returns-clause-taken
returns-clause-taken c =
    (weighs_end c.args.network.now c.args.divisor c.args.shares.now c.shares.left c.shares.room.reduced.items c.shares.paid c.requires.few c.in_default.ensures.steps.0 c.shares.invariant.weighs).taken

pub returns-clause-small : goal.returns-clause-small
returns-clause-small c = record {
  long = c.shares.invariant.kept.reduced;
  small = (weighs_end c.args.network.now c.args.divisor c.args.shares.now c.shares.left c.shares.room.reduced.items c.shares.paid c.requires.few c.in_default.ensures.steps.0 c.shares.invariant.weighs).small;
}
