use Rattle.std.proofs.Common.{◌≡◌, ◌∙◌, ◌<◌, ◌≤◌, ◌^◌, ℕ, ℤ, List, [], length, map, arith, ap, sym, subst}
use Rattle.std.specs.Prelude.{All, unsigned_abs}
use Rattle.whole_algebra.specs.Matrices.{at}
use Rattle.std.proofs.lemmas.List.{length-map, with_items_is}
use Rattle.std.proofs.lemmas.List.Elements.{All-head, All-tail}
use Rattle.geo_model.specs.Network.{NetworkOf}
use Rattle.bound_log.specs.CutText.{CutTextOf}
use Rattle.bound_log.specs.Meanings.{share_used}
use Rattle.log_check.specs.Weighing.{Weighs}
use Rattle.log_check.proofs.WeighLemmas.{HasWeighed, shares_of_uses, weighs_end, weighs_next, weighs_small, weighs_start}
use Rattle.log_check.proofs.dual_uses.weigh_uses.Goals as goal

abbrev Small : List CutTextOf → ℕ × ℕ → Type 0
Small cuts one = (one.0 ≤ 2 ^ 44) × (one.1 < length cuts)

pub uses-init : goal.uses-init
uses-init c =
    let network = c.args.network.now in
    let cuts = c.args.cuts.now in
    let uses = c.args.uses.now in
    let shares = map (share_used cuts) uses in
    let room = c.args.room.now in
    let prices = c.write_prices.new.reduced in
    let long : length prices ≡ room.reduced.len = omega (arith, c.write_prices.auto.reduced, ap length c.as_mut_slice.ensures.value, room.reduced.ok.0) in
    let put = with_items_is room.reduced prices long in
    let start = weighs_start network c.args.divisor shares prices (shares_of_uses network cuts uses c.requires.names c.requires.each) c.write_prices.ensures.prices c.write_prices.ensures.small in
    record {
      weighs = subst (λ (l : List ℤ). Weighs network c.args.divisor shares (map (share_used cuts) c.pairs-left.result) l 0) (sym put)
          (subst (λ (left : List (ℕ × ℕ)). Weighs network c.args.divisor shares (map (share_used cuts) left) prices 0) (sym c.pairs-left.ensures) start);
      each = subst (All (Small cuts)) (sym c.pairs-left.ensures) c.requires.each;
      kept = record {
        chains = c.requires.room.chains;
        moves = c.requires.room.moves;
        coefficients = c.requires.room.coefficients;
        reduced = ap length put ∙ long ∙ room.reduced.ok.0 ∙ c.requires.room.reduced;
      };
    }

pub weigh_use-paid-requires-clause-multiplier : goal.weigh_use-paid-requires-clause-multiplier
weigh_use-paid-requires-clause-multiplier c =
    let cuts = c.args.cuts.now in
    let one : ℕ × ℕ = (c.in-Some.multiplier, c.in-Some.number) in
    (All-head (Small cuts) one c.next.new.self (subst (All (Small cuts)) c.in-Some.ensures.steps c.uses.invariant.each)).0

pub weigh_use-paid-requires-clause-number : goal.weigh_use-paid-requires-clause-number
weigh_use-paid-requires-clause-number c =
    let cuts = c.args.cuts.now in
    let one : ℕ × ℕ = (c.in-Some.multiplier, c.in-Some.number) in
    (All-head (Small cuts) one c.next.new.self (subst (All (Small cuts)) c.in-Some.ensures.steps c.uses.invariant.each)).1

-- what is left of the prices, and what was paid, is small
small_weighed : (network : NetworkOf) (cuts : List CutTextOf) (divisor : ℕ) (uses left : List (ℕ × ℕ)) (reduced : List ℤ) (paid : ℕ) → length uses ≤ 64 → Weighs network divisor (map (share_used cuts) uses) (map (share_used cuts) left) reduced paid → ((i : ℕ) → unsigned_abs (at reduced i) ≤ 2 ^ 75) × (paid ≤ 2 ^ 74)
small_weighed network cuts divisor uses left reduced paid few weighs =
    let fewer : length (map (share_used cuts) uses) ≤ 64 = omega (arith, few, length-map uses (share_used cuts)) in
    weighs_small network divisor (map (share_used cuts) uses) (map (share_used cuts) left) reduced paid fewer weighs

pub weigh_use-paid-requires-clause-small : goal.weigh_use-paid-requires-clause-small
weigh_use-paid-requires-clause-small c =
    (small_weighed c.args.network.now c.args.cuts.now c.args.divisor c.args.uses.now c.uses.left c.uses.room.reduced.items c.uses.paid c.requires.few c.uses.invariant.weighs).0

pub overflow_add-paid : goal.overflow_add-paid
overflow_add-paid c =
    let small = (small_weighed c.args.network.now c.args.cuts.now c.args.divisor c.args.uses.now c.uses.left c.uses.room.reduced.items c.uses.paid c.requires.few c.uses.invariant.weighs).1 in
    omega (arith, small, c.weigh_use-paid.ensures.paid_size)

pub uses-preserved : goal.uses-preserved
uses-preserved c =
    let network = c.args.network.now in
    let cuts = c.args.cuts.now in
    let one : ℕ × ℕ = (c.in-Some.multiplier, c.in-Some.number) in
    let shares = map (share_used cuts) c.args.uses.now in
    let weighs = subst (λ (left : List (ℕ × ℕ)). Weighs network c.args.divisor shares (map (share_used cuts) left) c.uses.room.reduced.items c.uses.paid) c.in-Some.ensures.steps c.uses.invariant.weighs in
    let e = c.weigh_use-paid.ensures in
    record {
      weighs = weighs_next network c.args.divisor shares (map (share_used cuts) c.next.new.self) (share_used cuts one) c.uses.room.reduced.items c.weigh_use-paid.new.room.reduced.items c.uses.paid c.weigh_use-paid.result weighs
          e.paid e.paid_size e.taken e.near;
      each = All-tail (Small cuts) one c.next.new.self (subst (All (Small cuts)) c.in-Some.ensures.steps c.uses.invariant.each);
      kept = e.kept;
    }

-- all uses are taken off
all_weighed : (network : NetworkOf) (cuts : List CutTextOf) (divisor : ℕ) (uses left : List (ℕ × ℕ)) (reduced : List ℤ) (paid : ℕ) → length uses ≤ 64 → left ≡ [] → Weighs network divisor (map (share_used cuts) uses) (map (share_used cuts) left) reduced paid → HasWeighed network divisor (map (share_used cuts) uses) reduced paid
all_weighed network cuts divisor uses left reduced paid few none weighs =
    let fewer : length (map (share_used cuts) uses) ≤ 64 = omega (arith, few, length-map uses (share_used cuts)) in
    weighs_end network divisor (map (share_used cuts) uses) (map (share_used cuts) left) reduced paid fewer (ap (map (share_used cuts)) none) weighs

pub returns-clause-paid : goal.returns-clause-paid
returns-clause-paid c = (all_weighed c.args.network.now c.args.cuts.now c.args.divisor c.args.uses.now c.uses.left c.uses.room.reduced.items c.uses.paid c.requires.few c.in_default.ensures.steps.0 c.uses.invariant.weighs).sum

pub returns-clause-paid_size : goal.returns-clause-paid_size
returns-clause-paid_size c = (all_weighed c.args.network.now c.args.cuts.now c.args.divisor c.args.uses.now c.uses.left c.uses.room.reduced.items c.uses.paid c.requires.few c.in_default.ensures.steps.0 c.uses.invariant.weighs).size

pub returns-clause-taken : goal.returns-clause-taken
returns-clause-taken c = (all_weighed c.args.network.now c.args.cuts.now c.args.divisor c.args.uses.now c.uses.left c.uses.room.reduced.items c.uses.paid c.requires.few c.in_default.ensures.steps.0 c.uses.invariant.weighs).taken

pub returns-clause-small : goal.returns-clause-small
returns-clause-small c = record { long = c.uses.invariant.kept.reduced; small = (all_weighed c.args.network.now c.args.cuts.now c.args.divisor c.args.uses.now c.uses.left c.uses.room.reduced.items c.uses.paid c.requires.few c.in_default.ensures.steps.0 c.uses.invariant.weighs).small }
