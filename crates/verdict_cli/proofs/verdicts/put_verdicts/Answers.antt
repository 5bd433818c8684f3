use Rattle.std.proofs.Common.{◌≡◌, length, ap, arith}
use Rattle.geo_model.specs.Limit.{LimitOf}
use Rattle.pivot_chain.specs.Verdict.{verdict_of}
use Rattle.verdict_cli.specs.Answer.{verdict_line}
use Rattle.verdict_cli.proofs.Texts.{one_more}
use Rattle.verdict_cli.proofs.verdicts.put_verdicts.Goals as goal

pub loop-limit-preserved : goal.loop-limit-preserved
loop-limit-preserved c =
    let count : length c.limits.result.now ≡ length c.args.network.now.limits = ap length c.limits.ensures.value in
    let test = c.loop-limit-test.true in
    record {
      room = c.repeated-told.ensures.kept;
      lines = one_more (λ (form : LimitOf). verdict_line (verdict_of c.args.network.now c.args.plan.now form))
          c.args.out.now.items c.loop-limit.out.items (verdict_line c.repeated-told.result) c.put_verdict.new.out.items
          c.args.network.now.limits c.loop-limit.limit (omega (arith, count, test))
          (λ form at. ap verdict_line (c.repeated-told.ensures.exact form at))
          c.loop-limit.invariant.lines c.in_ok-put_verdict.ensures;
    }
