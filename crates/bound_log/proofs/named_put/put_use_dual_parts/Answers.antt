use Rattle.std.proofs.Common.{length, sym}
use Rattle.std.proofs.lemmas.List.{length-map}
use Rattle.bound_log.specs.UseText.{use_of, uses_of}
use Rattle.bound_log.proofs.CutSpellLemmas.{use_dual_put}
use Rattle.bound_log.proofs.named_put.put_use_dual_parts.Goals as goal

pub returns-clause-put : goal.returns-clause-put
returns-clause-put c =
    use_dual_put c.args.out.now.items c.push.new.self.items c.put_numbers.new.out.items c.put_uses.new.out.items c.push-2.new.self.items c.args.d (length c.args.shares.now) (uses_of c.args.shares.now)
    (sym (length-map c.args.shares.now use_of))
    c.in_ok-push.ensures.items c.in_ok-put_numbers.ensures.put c.in_ok-put_uses.ensures.put c.in_ok-push-2.ensures.items
