use Rattle.std.proofs.Common.{◌≡◌, ◌++◌, List, subst}
use Rattle.cut_pool.specs.declared.share.Share.{Share}
use Rattle.bound_log.specs.NamedText.{named_text}
use Rattle.bound_log.specs.UseText.{uses_of}
use Rattle.bound_log.specs.declared.named_line.NamedLine.TheVariants.{UseDual}
use Rattle.branch_bound.specs.Cuts.{named_cuts}
use Rattle.branch_bound.proofs.PutLemmas.{puts_dual}
use Rattle.branch_bound.proofs.line.put_named_dual.Goals as goal

pub returns-clause-put : goal.returns-clause-put
returns-clause-put c =
    let put : c.put_dual2.new.out.items ≡ c.named_shares.new.out.items ++ named_text (UseDual c.args.dual.now.d (uses_of c.in_ok-shares.shares.items)) =
    subst (λ (shares : List Share). c.put_dual2.new.out.items ≡ c.named_shares.new.out.items ++ named_text (UseDual c.args.dual.now.d (uses_of shares))) c.as_slice.ensures.value c.in_ok-put_dual2.ensures.put in
    puts_dual c.args.network.now (named_cuts c.args.cuts.now) c.named_shares.new.cuts c.args.dual.now.d c.in_ok-shares.shares.items c.args.dual.now.shares.items c.args.cuts.now.pool
    c.args.out.now.items c.named_shares.new.out.items c.put_dual2.new.out.items c.in_ok-shares.ensures.cuts c.requires.dual.divisor c.requires.dual.few
    (λ k d inside. (c.requires.dual.each k d inside).0) c.in_ok-shares.ensures.names c.in_ok-shares.ensures.uses put
