use Rattle.std.proofs.Common.{◌≡◌, ◌≤◌, length, ap, arith, below_more}
use Rattle.idle_splits.specs.UnitCuts.{HasUnitCut}
use Rattle.idle_splits.proofs.Kept.{Grows-then, HasUnitCut-grows, no_further_unknown}
use Rattle.idle_splits.proofs.unit_cuts.UnitCuts.add_limit.Goals as goal

pub loop-unknown-preserved : goal.loop-unknown-preserved
loop-unknown-preserved c =
    let network = c.args.network.now in
    let more = c.in_ok-add_unknown.ensures in
    let so_far = c.loop-unknown.invariant in
    record {
      grows = Grows-then network c.args.self.now c.loop-unknown.self c.add_unknown.new.self so_far.grows more.grows;
      has = below_more (λ u. HasUnitCut network c.add_unknown.new.self.pool c.args.number u) c.loop-unknown.unknown
          (λ u less. HasUnitCut-grows network c.loop-unknown.self c.add_unknown.new.self c.args.number u more.grows (so_far.has u less)) more.has;
      few = let one = more.few in let before = so_far.few in omega arith;
    }

pub returns-clause-has : goal.returns-clause-has
returns-clause-has c =
    let whole : length c.args.network.now.unknowns ≤ c.loop-unknown.unknown = let e : length c.unknowns.result.now ≡ length c.args.network.now.unknowns = ap length c.unknowns.ensures.value in omega arith in
    no_further_unknown c.args.network.now c.loop-unknown.self.pool c.args.number c.loop-unknown.unknown whole c.loop-unknown.invariant.has
