use Rattle.std.proofs.Common.{length, ap, arith, subst, sym, List}
use Rattle.std.proofs.Common.{length-append}
use Rattle.limit_stacks.specs.Kept.{IsKeptLimit}
use Rattle.limit_stacks.specs.declared.kept_limit.KeptLimit.{KeptLimit}
use Rattle.limit_stacks.proofs.Keeping.{Numbered, numbered_push}
use Rattle.limit_stacks.proofs.search_verdicts.SearchVerdicts.new.Goals as goal

pub limits-preserved : goal.limits-preserved
limits-preserved c = record {
  within = omega (arith, simp length-append at (ap length c.in_ok-push.ensures.items), ap length c.limits-in-limits.ensures.value);
  each =
      subst (λ (all : List KeptLimit). Numbered (λ number kept. IsKeptLimit c.args.network.now number kept) all) (sym c.in_ok-push.ensures.items)
      (numbered_push (λ number kept. IsKeptLimit c.args.network.now number kept) c.limits.limits.items c.new-in-limits.result c.limits.invariant.each (c.new-in-limits.ensures c.args.network.now (length c.limits.limits.items)));
}
