use Rattle.std.proofs.Common.{◌≡◌, ◌++◌, take, length}
use Rattle.std.specs.List.{flat_map}
use Rattle.geo_model.specs.Limit.{LimitOf}
use Rattle.pivot_chain.specs.Verdict.{verdict_of}
use Rattle.verdict_cli.specs.Answer.{verdict_line}
use Rattle.verdict_cli.specs.Followers.{AreFollowers}
use Rattle.verdict_cli.proofs.followers.put_followed.Given as goal

abbrev pub invariant-limits : goal.invariant-limits
invariant-limits l = record {
  followers : AreFollowers l.network (length l.network.limits) l.followers;
  lines : l.out.items ≡ l.fn.out.items ++ flat_map (λ (form : LimitOf). verdict_line (verdict_of l.network l.plan form)) (take l.limit l.network.limits);
}
