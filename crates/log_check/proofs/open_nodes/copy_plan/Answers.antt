use Rattle.std.proofs.Common.{◌+◌, ◌<◌, length, take, arith, ap, ◌∙◌}
use Rattle.std.proofs.lemmas.List.{length-set}
use Rattle.log_check.proofs.PlaceLemmas.{copied_more}
use Rattle.log_check.proofs.open_nodes.copy_plan.Goals as goal

pub loop-i-preserved : goal.loop-i-preserved
loop-i-preserved c =
    let to = c.loop-i.to in
    let i = c.loop-i.i in
    let inside : i < length to = omega (arith, c.loop-i.invariant.long, c.loop-i-test.true) in
    let within : i < length c.args.from.now = omega (arith, c.requires.from, c.loop-i-test.true) in
    record {
      long = ap length c.set.ensures ∙ length-set to i c.has.result ∙ c.loop-i.invariant.long;
      same = ap (take (i + 1)) c.set.ensures ∙ copied_more c.args.from.now to i c.has.result inside within c.loop-i.invariant.same c.has.ensures;
    }
