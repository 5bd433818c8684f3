use Rattle.std.proofs.Common.{◌≡◌, ◌≤◌, ℕ, length, ap, arith, below_more}
use Rattle.idle_splits.specs.UnitCuts.{HasUnitCut}
use Rattle.idle_splits.proofs.Kept.{HasUnitCut-grows, no_further_limit}
use Rattle.idle_splits.proofs.unit_cuts.UnitCuts.new.Goals as goal

pub loop-number-preserved : goal.loop-number-preserved
loop-number-preserved c =
    let network = c.args.network.now in
    let more = c.in_ok-add_limit.ensures in
    let so_far = c.loop-number.invariant in
    record {
      kept = more.grows.kept;
      has = below_more (λ k. (u : ℕ) → HasUnitCut network c.add_limit.new.self.pool k u) c.loop-number.number
          (λ k less u. HasUnitCut-grows network c.loop-number.cuts c.add_limit.new.self k u more.grows (so_far.has k less u)) more.has;
      few = more.few;
    }

pub returns : goal.returns
returns c =
    let whole : length c.args.network.now.limits ≤ c.loop-number.number = let e : length c.limits.result.now ≡ length c.args.network.now.limits = ap length c.limits.ensures.value in omega arith in
    record {
      kept = c.loop-number.invariant.kept;
      whole = no_further_limit c.args.network.now c.loop-number.cuts.pool c.loop-number.number whole c.loop-number.invariant.has;
    }
