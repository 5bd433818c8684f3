use Rattle.std.proofs.Common.{◌≡◌, ◌<◌, length, ◌∙◌, sym, ap, arith}
use Rattle.geo_model.specs.Limit.{LimitOf}
use Rattle.pivot_chain.specs.Verdict.{verdict_of}
use Rattle.verdict_cli.specs.Answer.{verdict_line}
use Rattle.verdict_cli.proofs.Follows.{same_some, follower_at, one_follower_written}
use Rattle.verdict_cli.proofs.Texts.{at_place, one_more}
use Rattle.verdict_cli.proofs.followers.put_followed.Goals as goal

pub put_one-requires-clause-follower : goal.put_one-requires-clause-follower
put_one-requires-clause-follower c =
    let lt = c.limits-test.true in
    let kept = c.limits.auto.followers in
    follower_at c.args.network.now c.limits.followers (length c.args.network.now.limits) c.limits.limit c.index-followers-limit.result c.limits.invariant.followers (omega arith)

pub limits-preserved : goal.limits-preserved
limits-preserved c =
    let lt = c.limits-test.true in
    let kept = c.limits.auto.followers in
    let places = c.limits.invariant.followers.places in
    let network = c.args.network.now in
    let plan = c.args.plan.now in
    let inside : c.limits.limit < length network.limits = omega arith in
    let found = at_place network.limits c.limits.limit inside in
    record {
      followers = one_follower_written network c.limits.followers (length network.limits) c.limits.limit c.put_one.new.follower c.limits.invariant.followers (omega arith) c.in_ok-put_one.ensures.kept;
      lines = one_more (λ (form : LimitOf). verdict_line (verdict_of network plan form)) c.args.out.now.items c.limits.out.items (verdict_line (verdict_of network plan found.0)) c.put_one.new.out.items
          network.limits c.limits.limit inside (λ form at. ap (λ (l : LimitOf). verdict_line (verdict_of network plan l)) (same_some found.0 form (sym found.1 ∙ at)))
          c.limits.invariant.lines (c.in_ok-put_one.ensures.line found.0 found.1);
    }
